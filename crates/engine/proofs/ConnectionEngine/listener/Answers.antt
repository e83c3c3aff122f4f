-- `listener`: the connection is made, and the engine runs with it.
-- Assumes nothing.
use Rattle.engine.proofs.Making.{makes}
use Rattle.engine.proofs.ConnectionEngine.listener.Goals as goal

pub returns : goal.returns
returns c = makes _ _ _ _ _ _ c.listener-made.ensures c.running_with.ensures
