-- `put_handle`: a handle, none, or a refusal.
-- Assumes nothing.
use borrow.Author.Rules.{rules}
use Rattle.hisproat.proofs.Readings.{puts_there, puts_nothing, puts_refused}
use Rattle.hisproat.proofs.status.put_handle.Goals as goal

pub returns-in-Err : goal.returns-in-Err
returns-in-Err c = search (puts_refused, rules)

pub returns-in-Some : goal.returns-in-Some
returns-in-Some c = search (puts_there, rules)

pub returns-in-None : goal.returns-in-None
returns-in-None c = search (puts_nothing, rules)
