-- `running`: a law for each phase.
-- Assumes nothing.
use borrow.Author.Rules.{rules}
use Rattle.engine.proofs.Phases.{goes_running, goes_awaiting, goes_stopped}
use Rattle.engine.proofs.ConnectionEngine.running.Goals as goal

pub returns-in-Running : goal.returns-in-Running
returns-in-Running c = search (goes_running, rules)

pub returns-in-Awaiting : goal.returns-in-Awaiting
returns-in-Awaiting c = search (goes_awaiting, rules)

pub returns-in-Stopped : goal.returns-in-Stopped
returns-in-Stopped c = search (goes_stopped, rules)
