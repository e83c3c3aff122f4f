-- `phase_read`: a law for each return.
-- Assumes nothing.
use borrow.Author.Rules.{rules}
use Rattle.engine.proofs.Reading.{phase_closed, phase_over, phase_on}
use Rattle.engine.proofs.settling.phase_read.Goals as goal

pub returns-in-Closed : goal.returns-in-Closed
returns-in-Closed c = search (phase_closed, rules)

pub returns-then-is_end : goal.returns-then-is_end
returns-then-is_end c = search (phase_over, rules)

pub returns : goal.returns
returns c = search (phase_on, rules)
