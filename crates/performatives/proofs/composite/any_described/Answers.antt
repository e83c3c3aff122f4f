-- `any_described`: the descriptor, and the list that stands after it.
-- Assumes nothing.
use borrow.Author.Rules.{rules}
use Rattle.performatives.proofs.Descriptors.{described_not, list_from, described_malformed, from_fits, end_fits, described_is}
use Rattle.performatives.proofs.composite.any_described.Goals as goal

ruleset steps = (described_not, list_from, described_malformed, from_fits, end_fits, described_is, rules)

pub descriptor_at-requires : goal.descriptor_at-requires
descriptor_at-requires c = search steps

pub returns-in_err-code : goal.returns-in_err-code
returns-in_err-code c = search steps

pub slice_bounds-list_at-count : goal.slice_bounds-list_at-count
slice_bounds-list_at-count c = search steps

pub slice_bounds-list_at-start : goal.slice_bounds-list_at-start
slice_bounds-list_at-start c = search steps

pub slice_bounds-list_at-end : goal.slice_bounds-list_at-end
slice_bounds-list_at-end c = search steps

pub list_at-requires : goal.list_at-requires
list_at-requires c = search steps

pub returns-in_err-count : goal.returns-in_err-count
returns-in_err-count c = search steps

pub overflow_add-result : goal.overflow_add-result
overflow_add-result c = search steps

pub overflow_add-result-2 : goal.overflow_add-result-2
overflow_add-result-2 c = search steps

pub returns : goal.returns
returns c = search steps
