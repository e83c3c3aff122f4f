-- `send_open`: 9, 20, and what the connection does.
-- Assumes nothing.
use borrow.Author.Rules.{rules}
use Rattle.engine.proofs.Openings.{open_9, open_20, open_sent}
use Rattle.engine.proofs.ConnectionEngine.send_open.Goals as goal

pub returns-then-out-lt-OUTPUT_ROOM : goal.returns-then-out-lt-OUTPUT_ROOM
returns-then-out-lt-OUTPUT_ROOM c = search (open_9, rules)

pub returns-then-is_ending : goal.returns-then-is_ending
returns-then-is_ending c = search (open_20, rules)

pub returns : goal.returns
returns c = search (open_sent, rules)
