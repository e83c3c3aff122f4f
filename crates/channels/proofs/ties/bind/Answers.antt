-- `channels::ties::bind` meets its contract: its steps one after the other.
-- Assumes nothing.
use Rattle.channels.proofs.Tying.{binds}
use Rattle.channels.proofs.ties.bind.Goals as goal

pub returns : goal.returns
returns c = binds _ _ _ _ _ _ _ _ _ c.write.ensures c.write-2.ensures c.write-3.ensures c.write-4.ensures
