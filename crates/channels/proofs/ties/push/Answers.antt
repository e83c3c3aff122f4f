-- `channels::ties::push` meets its contract: its steps one after the other.
-- Assumes nothing.
use Rattle.channels.proofs.Tying.{pushes}
use Rattle.channels.proofs.ties.push.Goals as goal

pub returns : goal.returns
returns c = pushes _ _ _ _ _ _ _ _ _ c.field-first.ensures c.come_from.ensures c.bind.ensures c.write.ensures
