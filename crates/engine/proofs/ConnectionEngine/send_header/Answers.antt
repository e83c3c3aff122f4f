-- `send_header`: 9, 20, and what the connection does.
-- Assumes nothing.
use borrow.Author.Rules.{rules}
use Rattle.engine.proofs.Openings.{header_9, header_20, header_sent_is}
use Rattle.engine.proofs.ConnectionEngine.send_header.Goals as goal

pub returns-then-out-lt-OUTPUT_ROOM : goal.returns-then-out-lt-OUTPUT_ROOM
returns-then-out-lt-OUTPUT_ROOM c = search (header_9, rules)

pub returns-then-is_ending : goal.returns-then-is_ending
returns-then-is_ending c = search (header_20, rules)

pub returns : goal.returns
returns c = search (header_sent_is, rules)
