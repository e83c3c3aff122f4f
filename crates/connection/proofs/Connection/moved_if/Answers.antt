-- `moved_if`: by what was written.
-- Assumes nothing.
use borrow.Author.Rules.{rules}
use Rattle.connection.proofs.Calls.{moved_told, kept_told}
use Rattle.connection.proofs.Connection.moved_if.Goals as goal

pub returns-in-Ok : goal.returns-in-Ok
returns-in-Ok c = search (moved_told, rules)

pub returns-in-Err : goal.returns-in-Err
returns-in-Err c = search (kept_told, rules)
