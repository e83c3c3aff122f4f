-- `header_inner`: each answer in its numbers.
-- Assumes nothing.
use borrow.Author.Rules.{rules}
use Rattle.hisproat.proofs.Telling.{amqp_inner, other_inner, no_header_inner}
use Rattle.hisproat.proofs.answers.header_inner.Goals as goal

pub returns-in-Err : goal.returns-in-Err
returns-in-Err c = search (no_header_inner, rules)

pub returns-in-Amqp : goal.returns-in-Amqp
returns-in-Amqp c = search (amqp_inner, rules)

pub returns-in-OtherProtocol : goal.returns-in-OtherProtocol
returns-in-OtherProtocol c = search (other_inner, rules)
