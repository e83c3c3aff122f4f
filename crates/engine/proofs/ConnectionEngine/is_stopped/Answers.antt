-- `is_stopped`: a law for each return.
-- Assumes nothing.
use borrow.Author.Rules.{rules}
use Rattle.engine.proofs.Reading.{stops, stops_not}
use Rattle.engine.proofs.ConnectionEngine.is_stopped.Goals as goal

pub returns-in-Stopped : goal.returns-in-Stopped
returns-in-Stopped c = search (stops, rules)

pub returns-in_default : goal.returns-in_default
returns-in_default c = search (stops_not, rules)
