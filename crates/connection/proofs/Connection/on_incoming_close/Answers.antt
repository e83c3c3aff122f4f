-- `on_incoming_close`: a move, or 20.
-- Assumes nothing.
use borrow.Author.Rules.{rules}
use Rattle.connection.proofs.Reading.{close_moved, close_not}
use Rattle.connection.proofs.Connection.on_incoming_close.Goals as goal

pub returns-in_default : goal.returns-in_default
returns-in_default c = search (close_not, rules)

pub returns : goal.returns
returns c = search (close_moved, rules)
