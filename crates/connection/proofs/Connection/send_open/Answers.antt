-- `send_open`: 9, 20, and what the writer of the Open says.
-- Assumes nothing.
use borrow.Author.Rules.{rules}
use Rattle.connection.proofs.Writing.{open_9, open_20, open_sent}
use Rattle.connection.proofs.Connection.send_open.Goals as goal

pub returns-then-out-lt-OUTPUT_ROOM : goal.returns-then-out-lt-OUTPUT_ROOM
returns-then-out-lt-OUTPUT_ROOM c = search (open_9, rules)

pub returns-in_default : goal.returns-in_default
returns-in_default c = search (open_20, rules)

pub returns : goal.returns
returns c = search (open_sent, rules)
