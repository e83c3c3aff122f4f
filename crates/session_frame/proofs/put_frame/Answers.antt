-- `put_frame`: the head, the fields, and what stands after them.
-- Assumes nothing.
use Rattle.session_frame.proofs.Frames.{kept_low, len_low, next_fits, fields_room, frame_laid}
use borrow.Author.Rules.{rules}
use Rattle.session_frame.proofs.put_frame.Goals as goal

ruleset steps = (kept_low, len_low, next_fits, fields_room, frame_laid, rules)

pub put_head-at-requires : goal.put_head-at-requires
put_head-at-requires c = search steps

pub slice_bounds-put_all-count : goal.slice_bounds-put_all-count
slice_bounds-put_all-count c = search steps

pub slice_bounds-put_all-start : goal.slice_bounds-put_all-start
slice_bounds-put_all-start c = search steps

pub slice_bounds-put_all-end : goal.slice_bounds-put_all-end
slice_bounds-put_all-end c = search steps

pub put_all-requires : goal.put_all-requires
put_all-requires c = search steps

pub overflow_add-at : goal.overflow_add-at
overflow_add-at c = search steps

pub slice_bounds-copy-count : goal.slice_bounds-copy-count
slice_bounds-copy-count c = search steps

pub slice_bounds-copy-start : goal.slice_bounds-copy-start
slice_bounds-copy-start c = search steps

pub slice_bounds-copy-end : goal.slice_bounds-copy-end
slice_bounds-copy-end c = search steps

pub copy-requires : goal.copy-requires
copy-requires c = search steps

pub shape_of-out : goal.shape_of-out
shape_of-out c = search steps

pub returns : goal.returns
returns c = search steps
