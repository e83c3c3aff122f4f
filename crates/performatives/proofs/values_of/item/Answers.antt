-- `item`: where it begins, and where it ends.
-- Assumes nothing.
use borrow.Author.Rules.{rules}
use Rattle.performatives.proofs.Found.{item_ordered, item_within, item_length, item_is}
use Rattle.performatives.proofs.values_of.item.Goals as goal

ruleset steps = (item_ordered, item_within, item_length, item_is, rules)

pub skip-at-requires : goal.skip-at-requires
skip-at-requires c = search steps

pub next-end-requires : goal.next-end-requires
next-end-requires c = search steps

pub slice_bounds-result-count : goal.slice_bounds-result-count
slice_bounds-result-count c = search steps

pub slice_bounds-result-start : goal.slice_bounds-result-start
slice_bounds-result-start c = search steps

pub slice_bounds-result-end : goal.slice_bounds-result-end
slice_bounds-result-end c = search steps

pub returns : goal.returns
returns c = search steps
