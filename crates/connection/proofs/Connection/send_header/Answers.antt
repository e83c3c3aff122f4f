-- `send_header`: 9, 20, and the header written.
-- Assumes nothing.
use borrow.Author.Rules.{rules}
use Rattle.connection.proofs.Writing.{header_9, header_20, header_sent_is}
use Rattle.connection.proofs.Connection.send_header.Goals as goal

pub returns-then-out-lt-OUTPUT_ROOM : goal.returns-then-out-lt-OUTPUT_ROOM
returns-then-out-lt-OUTPUT_ROOM c = search (header_9, rules)

pub returns-in_default : goal.returns-in_default
returns-in_default c = search (header_20, rules)

pub returns : goal.returns
returns c = search (header_sent_is, rules)
