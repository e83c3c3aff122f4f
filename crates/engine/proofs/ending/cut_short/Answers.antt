-- `cut_short`: a law for each phase.
-- Assumes nothing.
use borrow.Author.Rules.{rules}
use Rattle.engine.proofs.Landing.{cut_running, cut_awaiting, cut_stopped}
use Rattle.engine.proofs.ending.cut_short.Goals as goal

pub returns-in-Running : goal.returns-in-Running
returns-in-Running c = search (cut_running, rules)

pub returns-in-Awaiting : goal.returns-in-Awaiting
returns-in-Awaiting c = search (cut_awaiting, rules)

pub returns-in-Stopped : goal.returns-in-Stopped
returns-in-Stopped c = search (cut_stopped, rules)
