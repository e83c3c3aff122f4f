-- `on_not_delivered`: 9, 20, and the error path.
-- Assumes nothing.
use borrow.Author.Rules.{rules}
use Rattle.engine.proofs.Bare.{bare_on, bare_not}
use Rattle.engine.proofs.Landing.{not_delivered_9, not_delivered_20, not_delivered_done}
use Rattle.engine.proofs.ConnectionEngine.on_not_delivered.Goals as goal

pub returns-then-out-lt-OUTPUT_ROOM : goal.returns-then-out-lt-OUTPUT_ROOM
returns-then-out-lt-OUTPUT_ROOM c = search (not_delivered_9, bare_not, rules)

pub returns-then-is_ending : goal.returns-then-is_ending
returns-then-is_ending c = search (not_delivered_20, bare_not, rules)

pub returns : goal.returns
returns c = search (not_delivered_done, bare_on, rules)
