-- `goes_with`: by the phase.
-- Assumes nothing.
use borrow.Author.Rules.{rules}
use Rattle.engine.proofs.Phases.{goes_run, goes_told, goes_untold, goes_stopped_in}
use Rattle.engine.proofs.resuming.goes_with.Goals as goal

pub returns-then-is_told : goal.returns-then-is_told
returns-then-is_told c = search (goes_told, rules)

pub returns-in-Running : goal.returns-in-Running
returns-in-Running c = search (goes_run, rules)

pub returns-else-is_told : goal.returns-else-is_told
returns-else-is_told c = search (goes_untold, rules)

pub returns-in-Stopped : goal.returns-in-Stopped
returns-in-Stopped c = search (goes_stopped_in, rules)
