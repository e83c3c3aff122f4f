-- `settle`: the connection is over, or goes on.
-- Assumes nothing.
use borrow.Author.Rules.{rules}
use Rattle.engine.proofs.Phases.{over, on}
use Rattle.engine.proofs.settling.settle.Goals as goal

pub returns-then-is_end : goal.returns-then-is_end
returns-then-is_end c = search (over, rules)

pub returns : goal.returns
returns c = search (on, rules)
