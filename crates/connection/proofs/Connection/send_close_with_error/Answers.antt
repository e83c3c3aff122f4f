-- `send_close_with_error`: 9, 8, 20, and what the writer of the Close says.
-- Assumes nothing.
use borrow.Author.Rules.{rules}
use borrow.Author.Tests.{not-true, not-false}
use Rattle.connection.proofs.Writing.{close_9, error_8, error_20, error_sent}
use Rattle.connection.proofs.Connection.send_close_with_error.Goals as goal

pub returns-then-out-lt-OUTPUT_ROOM : goal.returns-then-out-lt-OUTPUT_ROOM
returns-then-out-lt-OUTPUT_ROOM c = search (close_9, rules)

pub returns-then-not-error_ok : goal.returns-then-not-error_ok
returns-then-not-error_ok c = search (error_8, not-true, rules)

pub returns-in_default : goal.returns-in_default
returns-in_default c = search (error_20, not-false, rules)

pub returns : goal.returns
returns c = search (error_sent, not-false, rules)
