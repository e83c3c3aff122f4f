-- `on_incoming_open`: a move with the endpoint agreed, or 20.
-- Assumes nothing.
use borrow.Author.Rules.{rules}
use Rattle.connection.proofs.Reading.{open_agreed, open_not}
use Rattle.connection.proofs.Connection.on_incoming_open.Goals as goal

pub returns-in_default : goal.returns-in_default
returns-in_default c = search (open_not, rules)

pub returns : goal.returns
returns c = search (open_agreed, rules)
