-- `closed_by`: a law for each return.
-- Assumes nothing.
use borrow.Author.Rules.{rules}
use Rattle.engine.proofs.Reading.{closed_error, closed_received, closed_else}
use Rattle.engine.proofs.settling.closed_by.Goals as goal

pub returns-then-with_error : goal.returns-then-with_error
returns-then-with_error c = search (closed_error, rules)

pub returns-in-CloseReceived : goal.returns-in-CloseReceived
returns-in-CloseReceived c = search (closed_received, rules)

pub returns-in_default : goal.returns-in_default
returns-in_default c = search (closed_else, rules)
