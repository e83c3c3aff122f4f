-- `put_fields`: a field by its row, and then those after it. The measure is how many are left.
-- Assumes nothing.
use Rattle.session_frame.proofs.Walk.{first_in, first_counts, row_fits, head_sized, tail_checked, head_room, tail_room, fields_laid, fields_none, fields_past}
use borrow.Author.Rules.{rules}
use Rattle.session_frame.proofs.+put_fields.Goals as goal

ruleset steps = (first_in, first_counts, row_fits, head_sized, tail_checked, head_room, tail_room, fields_laid, fields_none, fields_past, rules)

pub returns-then-left-eq0 : goal.returns-then-left-eq0
returns-then-left-eq0 t c = search steps

pub field_row-requires : goal.field_row-requires
field_row-requires t c = search steps

pub returns-in_default : goal.returns-in_default
returns-in_default t c = search steps

pub first_len-n-requires : goal.first_len-n-requires
first_len-n-requires t c = search steps

pub slice_bounds-put_field-end : goal.slice_bounds-put_field-end
slice_bounds-put_field-end t c = search steps

pub put_field-next-requires : goal.put_field-next-requires
put_field-next-requires t c = (
  head_sized _ _ _ _ _ c.in-Some.ensures _ _ c.requires.0 _ c.first_len-n.ensures,
  head_room _ _ _ _ _ c.in-Some.ensures _ _ _ c.first_len-n.ensures _ c.if-left-eq0.false _ _ c.requires.1,
)

pub slice_bounds-put_fields-count : goal.slice_bounds-put_fields-count
slice_bounds-put_fields-count t c = search steps

pub slice_bounds-put_fields-start : goal.slice_bounds-put_fields-start
slice_bounds-put_fields-start t c = search steps

pub slice_bounds-put_fields-end : goal.slice_bounds-put_fields-end
slice_bounds-put_fields-end t c = search steps

pub overflow_add-i : goal.overflow_add-i
overflow_add-i t c = search steps

pub overflow_sub-left : goal.overflow_sub-left
overflow_sub-left t c = search steps

pub put_fields-requires : goal.put_fields-requires
put_fields-requires t c = (
  search steps,
  (
    tail_checked _ _ _ _ _ c.in-Some.ensures _ _ c.requires.0 _ c.first_len-n.ensures _ c.saturating_sub.ensures,
    tail_room _ _ _ _ _ c.in-Some.ensures _ _ _ c.first_len-n.ensures _ c.if-left-eq0.false _ _ c.requires.1 _ c.put_field-next.ensures.1 _ c.saturating_sub.ensures _ c.put_field-next.ensures.0,
  ),
)

pub shape_of-out : goal.shape_of-out
shape_of-out t c = search steps

pub returns : goal.returns
returns t c = fields_laid _ _ _ _ _ c.in-Some.ensures _ _ _ c.first_len-n.ensures _ c.if-left-eq0.false _ _ c.requires.1 _ c.put_field-next.ensures.1 _ c.saturating_sub.ensures _ c.put_field-next.ensures.0 _ c.put_fields.ensures
