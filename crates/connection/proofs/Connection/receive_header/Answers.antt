-- `receive_header`: one law for each header that can come.
-- Assumes nothing.
use borrow.Author.Rules.{rules}
use Rattle.connection.proofs.Reading.{header_amqp, header_other, header_not}
use Rattle.connection.proofs.Connection.receive_header.Goals as goal

pub returns-in-Amqp : goal.returns-in-Amqp
returns-in-Amqp c = search (header_amqp, rules)

pub returns-in-Other : goal.returns-in-Other
returns-in-Other c = search (header_other, rules)

pub returns-in-Err : goal.returns-in-Err
returns-in-Err c = search (header_not, rules)
