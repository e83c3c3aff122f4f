-- `value_to`: one law for each answer.
-- Assumes nothing.
use borrow.Author.Rules.{rules}
use Rattle.values.proofs.Steps.{value_none, value_some}
use Rattle.values.proofs.value_to.Goals as goal

ruleset steps = (value_none, value_some, rules)

pub returns-then-end-eq0 : goal.returns-then-end-eq0
returns-then-end-eq0 c = search steps

pub returns : goal.returns
returns c = search steps
