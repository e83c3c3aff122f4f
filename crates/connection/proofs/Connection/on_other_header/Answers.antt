-- `on_other_header`: a move, or 20.
-- Assumes nothing.
use borrow.Author.Rules.{rules}
use Rattle.connection.proofs.Reading.{other_moved, other_not}
use Rattle.connection.proofs.Connection.on_other_header.Goals as goal

pub returns-in_default : goal.returns-in_default
returns-in_default c = search (other_not, rules)

pub returns : goal.returns
returns c = search (other_moved, rules)
