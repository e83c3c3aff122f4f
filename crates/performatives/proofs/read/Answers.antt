-- `read`: a described list, and the performative that it makes.
-- Assumes nothing.
use borrow.Author.Rules.{rules}
use Rattle.performatives.proofs.Typed.{items_ordered, items_inside}
use Rattle.performatives.proofs.Chosen.{read_not, read_is}
use Rattle.performatives.proofs.read.Goals as goal

ruleset steps = (items_ordered, items_inside, read_not, read_is, rules)

pub described_list-requires : goal.described_list-requires
described_list-requires c = search steps

pub returns-in_err-code : goal.returns-in_err-code
returns-in_err-code c = search steps

pub slice_bounds-performative_in-count : goal.slice_bounds-performative_in-count
slice_bounds-performative_in-count c = search steps

pub slice_bounds-performative_in-start : goal.slice_bounds-performative_in-start
slice_bounds-performative_in-start c = search steps

pub slice_bounds-performative_in-end : goal.slice_bounds-performative_in-end
slice_bounds-performative_in-end c = search steps

pub performative_in-requires : goal.performative_in-requires
performative_in-requires c = search steps

pub returns : goal.returns
returns c = search steps
