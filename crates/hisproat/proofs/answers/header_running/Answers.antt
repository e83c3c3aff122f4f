-- `header_running`: taken, or refused.
-- Assumes nothing.
use borrow.Author.Rules.{rules}
use Rattle.hisproat.proofs.Telling.{runs_taken, runs_not}
use Rattle.hisproat.proofs.answers.header_running.Goals as goal

pub returns-in-Ok : goal.returns-in-Ok
returns-in-Ok c = search (runs_taken, rules)

pub returns-in-Err : goal.returns-in-Err
returns-in-Err c = search (runs_not, rules)
