-- `on_end_of_input`: 9, and then a law for each phase.
-- Assumes nothing.
use borrow.Author.Rules.{rules}
use Rattle.engine.proofs.Bare.{bare_on, bare_not}
use Rattle.engine.proofs.Landing.{input_9, input_20, input_awaiting, input_running}
use Rattle.engine.proofs.ConnectionEngine.on_end_of_input.Goals as goal

pub returns-then-out-lt-OUTPUT_ROOM : goal.returns-then-out-lt-OUTPUT_ROOM
returns-then-out-lt-OUTPUT_ROOM c = search (input_9, bare_not, rules)

pub returns-in-Stopped : goal.returns-in-Stopped
returns-in-Stopped c = search (input_20, bare_not, rules)

pub returns-in-Awaiting : goal.returns-in-Awaiting
returns-in-Awaiting c = search (input_awaiting, bare_on, rules)

pub returns-in-Running : goal.returns-in-Running
returns-in-Running c = search (input_running, bare_on, rules)
