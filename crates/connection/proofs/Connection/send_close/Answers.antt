-- `send_close`: 9, 20, and what the writer of the Close says.
-- Assumes nothing.
use borrow.Author.Rules.{rules}
use Rattle.connection.proofs.Writing.{close_9, close_20, close_sent}
use Rattle.connection.proofs.Connection.send_close.Goals as goal

pub returns-then-out-lt-OUTPUT_ROOM : goal.returns-then-out-lt-OUTPUT_ROOM
returns-then-out-lt-OUTPUT_ROOM c = search (close_9, rules)

pub returns-in_default : goal.returns-in_default
returns-in_default c = search (close_20, rules)

pub returns : goal.returns
returns c = search (close_sent, rules)
