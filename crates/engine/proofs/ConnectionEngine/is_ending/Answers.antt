-- `is_ending`: a law for each return.
-- Assumes nothing.
use borrow.Author.Rules.{rules}
use Rattle.engine.proofs.Phases.{ends_not, ends}
use Rattle.engine.proofs.ConnectionEngine.is_ending.Goals as goal

pub returns-in-Running : goal.returns-in-Running
returns-in-Running c = search (ends_not, rules)

pub returns-in_default : goal.returns-in_default
returns-in_default c = search (ends, rules)
