-- `on_amqp_header`: a move, or 20.
-- Assumes nothing.
use borrow.Author.Rules.{rules}
use Rattle.connection.proofs.Reading.{amqp_moved, amqp_not}
use Rattle.connection.proofs.Connection.on_amqp_header.Goals as goal

pub returns-in_default : goal.returns-in_default
returns-in_default c = search (amqp_not, rules)

pub returns : goal.returns
returns c = search (amqp_moved, rules)
