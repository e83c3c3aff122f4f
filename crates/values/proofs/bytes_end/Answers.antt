-- `bytes_end`: one law for each answer.
-- Assumes nothing.
use borrow.Author.Rules.{rules}
use Rattle.values.proofs.Steps.{bytes_off, bytes_on}
use Rattle.values.proofs.bytes_end.Goals as goal

ruleset steps = (bytes_off, bytes_on, rules)

pub returns-then-s-end : goal.returns-then-s-end
returns-then-s-end c = search steps

pub returns : goal.returns
returns c = search steps
