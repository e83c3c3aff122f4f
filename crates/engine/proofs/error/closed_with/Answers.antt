-- `closed_with`: a law for each return.
-- Assumes nothing.
use borrow.Author.Rules.{rules}
use Rattle.engine.proofs.Phases.{closed_over, closed_awaits}
use Rattle.engine.proofs.error.closed_with.Goals as goal

pub returns-then-is_end : goal.returns-then-is_end
returns-then-is_end c = search (closed_over, rules)

pub returns : goal.returns
returns c = search (closed_awaits, rules)
