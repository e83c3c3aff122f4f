-- `number_at`: one law for each answer.
-- Assumes nothing.
use borrow.Author.Rules.{rules}
use Rattle.values.proofs.Steps.{narrow_is}
use Rattle.values.proofs.number_at.Goals as goal

ruleset steps = (narrow_is, rules)

pub returns-in-One : goal.returns-in-One
returns-in-One c = search steps
