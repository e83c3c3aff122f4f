-- `ConnectionEngine::resumed`: a phase that goes with the state, or none.
-- Assumes nothing.
use borrow.Author.Rules.{rules}
use Rattle.engine.proofs.Phases.{resumed_kept}
use Rattle.engine.proofs.ConnectionEngine.resumed.Goals as goal

pub returns : goal.returns
returns c = search (resumed_kept, rules)
