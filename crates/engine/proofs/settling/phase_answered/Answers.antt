-- `phase_answered`: a law for each return.
-- Assumes nothing.
use borrow.Author.Rules.{rules}
use Rattle.engine.proofs.Reading.{answered_refused, answered_taken}
use Rattle.engine.proofs.settling.phase_answered.Goals as goal

pub returns-in-Err : goal.returns-in-Err
returns-in-Err c = search (answered_refused, rules)

pub returns-in-Ok : goal.returns-in-Ok
returns-in-Ok c = search (answered_taken, rules)
