-- `channels::take` meets its contract: by its definition.
-- Assumes nothing.
use Rattle.channels.proofs.take.Goals as goal

pub returns : goal.returns
returns c = cc
