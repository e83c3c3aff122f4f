-- `started`: laid, or refused.
-- Assumes nothing.
use borrow.Author.Rules.{rules}
use Rattle.hisproat.proofs.Starting.{starts_made, starts_refused}
use Rattle.hisproat.proofs.started.Goals as goal

pub returns-in-Ok : goal.returns-in-Ok
returns-in-Ok c = search (starts_made, rules)

pub returns-in-Err : goal.returns-in-Err
returns-in-Err c = search (starts_refused, rules)
