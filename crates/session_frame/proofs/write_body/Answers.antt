-- `write_body`: the described list, what is kept of its fields, and the limit.
-- Assumes nothing.
use Rattle.session_frame.proofs.Errors.{items_from_lem, items_end}
use Rattle.session_frame.proofs.Writing.{body_none, body_checked, code_fits, is_planned, head_fits, sum_fits, size_fits, size_is, body_over, body_most, body_written}
use native.Mathlib.Omega.{arith}
use borrow.Author.Rules.{rules}
use Rattle.session_frame.proofs.write_body.Goals as goal

ruleset steps = (items_from_lem, items_end, body_none, body_checked, code_fits, is_planned, head_fits, sum_fits, size_fits, size_is, body_over, body_most, body_written, rules)

pub described_list-requires : goal.described_list-requires
described_list-requires c = search steps

pub returns-in_default : goal.returns-in_default
returns-in_default c = body_none _ _ _ _ c.in_default.ensures

pub slice_bounds-trim_all-count : goal.slice_bounds-trim_all-count
slice_bounds-trim_all-count c = search steps

pub slice_bounds-trim_all-start : goal.slice_bounds-trim_all-start
slice_bounds-trim_all-start c = search steps

pub slice_bounds-trim_all-end : goal.slice_bounds-trim_all-end
slice_bounds-trim_all-end c = search steps

pub trim_all-kept-requires : goal.trim_all-kept-requires
trim_all-kept-requires c = search steps

pub overflow_cast-list : goal.overflow_cast-list
overflow_cast-list c = search steps

pub returns-then-limit-size : goal.returns-then-limit-size
returns-then-limit-size c = body_over _ _ _ _ _ c.in-Some.ensures c.requires.0 _ c.trim_all-kept.ensures _ c.composite_header_len-head.ensures.0 _ _ _ c.if-limit-size.true

pub returns-then-size-gt16384 : goal.returns-then-size-gt16384
returns-then-size-gt16384 c = body_most _ _ _ _ _ c.in-Some.ensures c.requires.0 _ c.trim_all-kept.ensures _ c.composite_header_len-head.ensures.0 _ _ _ c.if-limit-size.false c.if-size-gt16384.true

pub overflow_cast-size : goal.overflow_cast-size
overflow_cast-size c = search steps

pub put_frame-requires : goal.put_frame-requires
put_frame-requires c = (
  is_planned _ _ _ _ _ c.in-Some.ensures c.requires.0 _ c.trim_all-kept.ensures,
  size_is _ _ _ _ _ c.in-Some.ensures c.requires.0 _ c.trim_all-kept.ensures _ c.composite_header_len-head.ensures.0 _,
  omega arith,
  omega arith,
)

pub shape_of-out : goal.shape_of-out
shape_of-out c = search steps

pub returns : goal.returns
returns c = body_written _ _ _ _ _ c.in-Some.ensures c.requires.0 _ c.trim_all-kept.ensures _ c.composite_header_len-head.ensures.0 _ _ _ c.if-limit-size.false _ c.if-size-gt16384.false c.requires.1 c.put_frame.ensures

pub overflow_add-size : goal.overflow_add-size
overflow_add-size c = search steps

pub overflow_sub-size : goal.overflow_sub-size
overflow_sub-size c = search steps

pub overflow_add-size-2 : goal.overflow_add-size-2
overflow_add-size-2 c = search steps
