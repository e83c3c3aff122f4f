-- `send_session_frame`: 9, 8, and what the endpoint does.
-- Assumes nothing.
use borrow.Author.Rules.{rules}
use borrow.Author.Tests.{not-true, not-false}
use Rattle.connection.proofs.Tables.{send_9, send_short, sends_does}
use Rattle.connection.proofs.Connection.send_session_frame.Goals as goal

pub returns-then-out-lt-OUTPUT_ROOM : goal.returns-then-out-lt-OUTPUT_ROOM
returns-then-out-lt-OUTPUT_ROOM c = search (send_9, rules)

pub returns-then-not-is_covered : goal.returns-then-not-is_covered
returns-then-not-is_covered c = search (send_short, not-true, rules)

pub returns : goal.returns
returns c = search (sends_does, not-false, rules)
