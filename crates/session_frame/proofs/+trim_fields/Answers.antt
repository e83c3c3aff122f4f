-- `trim_fields`: a field by its row, and what is kept of those after it. The measure is how many rows are left.
-- Assumes nothing.
use Rattle.session_frame.proofs.Walk.{first_in, first_counts, trim_none, row_fits, fewer_rows, head_sized, tail_checked, kept_count, kept_len, trim_step}
use borrow.Author.Rules.{rules}
use Rattle.session_frame.proofs.+trim_fields.Goals as goal

ruleset steps = (first_in, first_counts, trim_none, row_fits, fewer_rows, head_sized, tail_checked, kept_count, kept_len, trim_step, rules)

pub field_row-requires : goal.field_row-requires
field_row-requires t c = search steps

pub returns-in_default : goal.returns-in_default
returns-in_default t c = search steps

pub first_len-n-requires : goal.first_len-n-requires
first_len-n-requires t c = search steps

pub slice_bounds-field_size-end : goal.slice_bounds-field_size-end
slice_bounds-field_size-end t c = search steps

pub field_size-field-requires : goal.field_size-field-requires
field_size-field-requires t c = search steps

pub slice_bounds-trim_fields-count : goal.slice_bounds-trim_fields-count
slice_bounds-trim_fields-count t c = search steps

pub slice_bounds-trim_fields-start : goal.slice_bounds-trim_fields-start
slice_bounds-trim_fields-start t c = search steps

pub slice_bounds-trim_fields-end : goal.slice_bounds-trim_fields-end
slice_bounds-trim_fields-end t c = search steps

pub overflow_add-i : goal.overflow_add-i
overflow_add-i t c = search steps

pub trim_fields-rest-requires : goal.trim_fields-rest-requires
trim_fields-rest-requires t c = search steps

pub before-requires : goal.before-requires
before-requires t c = search steps

pub returns : goal.returns
returns t c = trim_step _ _ _ _ _ c.in-Some.ensures _ _ _ c.first_len-n.ensures _ c.saturating_sub.ensures _ c.field_size-field.ensures _ c.trim_fields-rest.ensures _ c.before-2.ensures
