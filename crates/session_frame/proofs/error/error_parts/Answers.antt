-- `error_parts`: the described list, its first value, and what is kept of the others.
-- Assumes nothing.
use Rattle.session_frame.proofs.Split.{value_in}
use Rattle.session_frame.proofs.Errors.{parts_none, items_from_lem, items_end, count_some, parts_value, parts_others, end_fits, parts_are}
use borrow.Author.Rules.{rules}
use Rattle.session_frame.proofs.error.error_parts.Goals as goal

ruleset steps = (value_in, parts_none, items_from_lem, items_end, count_some, parts_value, parts_others, end_fits, parts_are, rules)

pub described_list-requires : goal.described_list-requires
described_list-requires c = search steps

pub returns-in_err-list : goal.returns-in_err-list
returns-in_err-list c = search steps

pub slice_bounds-items-count : goal.slice_bounds-items-count
slice_bounds-items-count c = search steps

pub slice_bounds-items-start : goal.slice_bounds-items-start
slice_bounds-items-start c = search steps

pub slice_bounds-items-end : goal.slice_bounds-items-end
slice_bounds-items-end c = search steps

pub value_end-requires : goal.value_end-requires
value_end-requires c = search steps

pub returns-in_err-n : goal.returns-in_err-n
returns-in_err-n c = search steps

pub slice_bounds-trim_values-count : goal.slice_bounds-trim_values-count
slice_bounds-trim_values-count c = search steps

pub slice_bounds-trim_values-start : goal.slice_bounds-trim_values-start
slice_bounds-trim_values-start c = search steps

pub slice_bounds-trim_values-end : goal.slice_bounds-trim_values-end
slice_bounds-trim_values-end c = search steps

pub overflow_sub-list : goal.overflow_sub-list
overflow_sub-list c = search steps

pub trim_values-requires : goal.trim_values-requires
trim_values-requires c = search steps

pub returns-in_err-rest : goal.returns-in_err-rest
returns-in_err-rest c = search steps

pub overflow_add-result : goal.overflow_add-result
overflow_add-result c = search steps

pub returns : goal.returns
returns c = parts_are _ _ _ _ _ c.in_ok-list.ensures c.requires _ c.in_ok-n.ensures _ c.in_ok-rest.ensures
