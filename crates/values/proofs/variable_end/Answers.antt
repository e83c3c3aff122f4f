-- `variable_end`: one law for each answer.
-- Assumes nothing.
use borrow.Author.Rules.{rules}
use Rattle.values.proofs.Steps.{variable_cut, variable_is}
use Rattle.values.proofs.variable_end.Goals as goal

ruleset steps = (variable_cut, variable_is, rules)

pub returns-then-s-at : goal.returns-then-s-at
returns-then-s-at c = search steps

pub returns : goal.returns
returns c = search steps
