-- `error_size`: the header and its parts, or null.
-- Assumes nothing.
use Rattle.session_frame.proofs.Errors.{error_null, parts_from, parts_end, parts_count, error_fits, error_size}
use borrow.Author.Rules.{rules}
use Rattle.session_frame.proofs.error.error_size.Goals as goal

ruleset steps = (error_null, parts_from, parts_end, parts_count, error_fits, error_size, rules)

pub error_parts-requires : goal.error_parts-requires
error_parts-requires c = search steps

pub returns-in_default : goal.returns-in_default
returns-in_default c = search steps

pub parts_len-size-requires : goal.parts_len-size-requires
parts_len-size-requires c = search steps

pub overflow_add-parts : goal.overflow_add-parts
overflow_add-parts c = search steps

pub overflow_add-result : goal.overflow_add-result
overflow_add-result c = search steps

pub returns : goal.returns
returns c = search steps
