-- `number_of`: what stands after the first byte.
-- Assumes nothing.
use Rattle.session_frame.proofs.Steps.{number_none, number_some}
use borrow.Author.Rules.{rules}
use Rattle.session_frame.proofs.field.number_of.Goals as goal

ruleset steps = (number_none, number_some, rules)

pub returns-then-f-eq0 : goal.returns-then-f-eq0
returns-then-f-eq0 c = search steps

pub slice_bounds-number-count : goal.slice_bounds-number-count
slice_bounds-number-count c = search steps

pub slice_bounds-number-start : goal.slice_bounds-number-start
slice_bounds-number-start c = search steps

pub slice_bounds-number-end : goal.slice_bounds-number-end
slice_bounds-number-end c = search steps

pub number-requires : goal.number-requires
number-requires c = search steps

pub returns : goal.returns
returns c = number_some _ _ c.number.ensures.0 c.number.ensures.1
