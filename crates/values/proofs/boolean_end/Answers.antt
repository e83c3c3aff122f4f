-- `boolean_end`: one law for each answer.
-- Assumes nothing.
use borrow.Author.Rules.{rules}
use Rattle.values.proofs.Steps.{boolean_cut, boolean_in, boolean_off, boolean_on}
use Rattle.values.proofs.boolean_end.Goals as goal

ruleset steps = (boolean_cut, boolean_in, boolean_off, boolean_on, rules)

pub returns-then-s-at : goal.returns-then-s-at
returns-then-s-at c = search steps

pub bounds-s-at : goal.bounds-s-at
bounds-s-at c = search steps

pub returns-then-s-at-gt1 : goal.returns-then-s-at-gt1
returns-then-s-at-gt1 c = search steps

pub returns : goal.returns
returns c = search steps
