-- `plains_end`: one law for each answer.
-- Assumes nothing.
use borrow.Author.Rules.{rules}
use Rattle.values.proofs.Steps.{plains_short, plains_sized}
use Rattle.values.proofs.plains_end.Goals as goal

ruleset steps = (plains_short, plains_sized, rules)

pub returns-then-c-lt160 : goal.returns-then-c-lt160
returns-then-c-lt160 c = search steps

pub returns : goal.returns
returns c = search steps
