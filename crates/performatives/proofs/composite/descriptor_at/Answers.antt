-- `descriptor_at`: the 00, the ulong and where it ends.
-- Assumes nothing.
use borrow.Author.Rules.{rules}
use borrow.Author.Tests.{not-true, not-false}
use Rattle.performatives.proofs.Descriptors.{descriptor_not, descriptor_some, descriptor_other, descriptor_malformed, ulong_some, ulong_within, ulong_fits, descriptor_is}
use Rattle.performatives.proofs.composite.descriptor_at.Goals as goal

ruleset steps = (descriptor_not, descriptor_some, descriptor_other, descriptor_malformed, ulong_some, ulong_within, ulong_fits, descriptor_is, not-true, not-false, rules)

pub starts_with-requires : goal.starts_with-requires
starts_with-requires c = search steps

pub returns-then-not-starts_with : goal.returns-then-not-starts_with
returns-then-not-starts_with c = search steps

pub slice_bounds-ulong-count : goal.slice_bounds-ulong-count
slice_bounds-ulong-count c = search steps

pub slice_bounds-ulong-start : goal.slice_bounds-ulong-start
slice_bounds-ulong-start c = search steps

pub slice_bounds-ulong-end : goal.slice_bounds-ulong-end
slice_bounds-ulong-end c = search steps

pub starts_with-requires-2 : goal.starts_with-requires-2
starts_with-requires-2 c = search steps

pub returns-then-not-starts_with-2 : goal.returns-then-not-starts_with-2
returns-then-not-starts_with-2 c = search steps

pub value_end-requires : goal.value_end-requires
value_end-requires c = search steps

pub returns-in_err-n : goal.returns-in_err-n
returns-in_err-n c = search steps

pub slice_bounds-number-count : goal.slice_bounds-number-count
slice_bounds-number-count c = search steps

pub slice_bounds-number-start : goal.slice_bounds-number-start
slice_bounds-number-start c = search steps

pub slice_bounds-number-end : goal.slice_bounds-number-end
slice_bounds-number-end c = search steps

pub number-requires : goal.number-requires
number-requires c = search steps

pub overflow_add-result : goal.overflow_add-result
overflow_add-result c = search steps

pub returns : goal.returns
returns c = descriptor_is _ _ c.starts_with.ensures (search steps) _ c.starts_with-2.ensures (search steps) _ c.in_ok-n.ensures _ (search steps)
