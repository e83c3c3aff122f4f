-- `is_answered`: by the state, and whether the frame is a Close.
-- Assumes nothing.
use borrow.Author.Rules.{rules}
use Rattle.engine.proofs.Reading.{answers_received, answers_not}
use Rattle.engine.proofs.ConnectionEngine.is_answered.Goals as goal

pub returns-in-CloseReceived : goal.returns-in-CloseReceived
returns-in-CloseReceived c = search (answers_received, rules)

pub returns-in_default : goal.returns-in_default
returns-in_default c = search (answers_not, rules)
