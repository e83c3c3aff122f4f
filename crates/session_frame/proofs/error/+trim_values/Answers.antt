-- `trim_values`: a value, and what is kept of those after it. The measure is how many there are.
-- Assumes nothing.
use Rattle.session_frame.proofs.Split.{values_none, values_left, value_malformed, value_in, others_malformed, count_fits, len_fits, values_kept}
use borrow.Author.Rules.{rules}
use Rattle.session_frame.proofs.error.+trim_values.Goals as goal

ruleset steps = (values_none, values_left, value_malformed, value_in, others_malformed, count_fits, len_fits, values_kept, rules)

pub returns-then-s-eq0 : goal.returns-then-s-eq0
returns-then-s-eq0 t c = search steps

pub returns-then-count-eq0 : goal.returns-then-count-eq0
returns-then-count-eq0 t c = search steps

pub value_end-requires : goal.value_end-requires
value_end-requires t c = search steps

pub returns-in_err-n : goal.returns-in_err-n
returns-in_err-n t c = search steps

pub slice_bounds-trim_values-count : goal.slice_bounds-trim_values-count
slice_bounds-trim_values-count t c = search steps

pub slice_bounds-trim_values-start : goal.slice_bounds-trim_values-start
slice_bounds-trim_values-start t c = search steps

pub slice_bounds-trim_values-end : goal.slice_bounds-trim_values-end
slice_bounds-trim_values-end t c = search steps

pub overflow_sub-count : goal.overflow_sub-count
overflow_sub-count t c = search steps

pub trim_values-requires : goal.trim_values-requires
trim_values-requires t c = search steps

pub returns-in_err-rest : goal.returns-in_err-rest
returns-in_err-rest t c = search steps

pub is_null-requires : goal.is_null-requires
is_null-requires t c = search steps

pub before-requires : goal.before-requires
before-requires t c = search steps

pub returns : goal.returns
returns t c = values_kept _ _ c.if-count-eq0.false _ c.in_ok-n.ensures _ c.in_ok-rest.ensures _ _ c.is_null.ensures c.before-2.ensures
