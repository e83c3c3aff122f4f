-- `put_error`: the header and its parts, or null.
-- Assumes nothing.
use Rattle.session_frame.proofs.Errors.{error_null_laid, parts_from, parts_end, parts_count, parts_few, start_fits, size_low, joined_room, error_laid}
use borrow.Author.Rules.{rules}
use Rattle.session_frame.proofs.error.put_error.Goals as goal

ruleset steps = (error_null_laid, parts_from, parts_end, parts_count, parts_few, start_fits, size_low, joined_room, error_laid, rules)

pub error_parts-requires : goal.error_parts-requires
error_parts-requires c = search steps

pub put_null-requires : goal.put_null-requires
put_null-requires c = search steps

pub shape_of-out-in_default : goal.shape_of-out-in_default
shape_of-out-in_default c = search steps

pub returns-in_default : goal.returns-in_default
returns-in_default c = search steps

pub parts_len-size-requires : goal.parts_len-size-requires
parts_len-size-requires c = search steps

pub overflow_add-count : goal.overflow_add-count
overflow_add-count c = search steps

pub overflow_add-start : goal.overflow_add-start
overflow_add-start c = search steps

pub overflow_cast-count : goal.overflow_cast-count
overflow_cast-count c = search steps

pub overflow_cast-size : goal.overflow_cast-size
overflow_cast-size c = size_low _ _ c.in-Some.ensures _ c.parts_len-size.ensures _ c.composite_header_len.ensures.0 _ _ c.requires.1

pub put_composite_header-requires : goal.put_composite_header-requires
put_composite_header-requires c = search steps

pub put_parts-requires : goal.put_parts-requires
put_parts-requires c = search steps

pub shape_of-out : goal.shape_of-out
shape_of-out c = search steps

pub returns : goal.returns
returns c = error_laid _ _ c.in-Some.ensures _ c.parts_len-size.ensures _ c.composite_header_len.ensures.0 _ _ c.requires.1 _ c.put_composite_header.ensures _ c.put_parts.ensures
