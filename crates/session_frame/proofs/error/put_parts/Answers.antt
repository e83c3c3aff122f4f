-- `put_parts`: two writes, one after the other.
-- Assumes nothing.
use Rattle.session_frame.proofs.Errors.{next_fits, parts_laid}
use borrow.Author.Rules.{rules}
use Rattle.session_frame.proofs.error.put_parts.Goals as goal

ruleset steps = (next_fits, parts_laid, rules)

pub slice_bounds-text_of-count : goal.slice_bounds-text_of-count
slice_bounds-text_of-count c = search steps

pub slice_bounds-text_of-start : goal.slice_bounds-text_of-start
slice_bounds-text_of-start c = search steps

pub slice_bounds-text_of-end : goal.slice_bounds-text_of-end
slice_bounds-text_of-end c = search steps

pub text_of-condition-requires : goal.text_of-condition-requires
text_of-condition-requires c = search steps

pub text_len-requires : goal.text_len-requires
text_len-requires c = search steps

pub overflow_add-next : goal.overflow_add-next
overflow_add-next c = search steps

pub put_text-requires : goal.put_text-requires
put_text-requires c = search steps

pub overflow_add-parts : goal.overflow_add-parts
overflow_add-parts c = search steps

pub slice_bounds-copy-count : goal.slice_bounds-copy-count
slice_bounds-copy-count c = search steps

pub slice_bounds-copy-start : goal.slice_bounds-copy-start
slice_bounds-copy-start c = search steps

pub slice_bounds-copy-end : goal.slice_bounds-copy-end
slice_bounds-copy-end c = search steps

pub copy-requires : goal.copy-requires
copy-requires c = search steps

pub shape_of-out : goal.shape_of-out
shape_of-out c = search steps

pub returns : goal.returns
returns c = search steps
