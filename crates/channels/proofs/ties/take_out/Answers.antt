-- `channels::ties::take_out` meets its contract: its steps one after the other.
-- Assumes nothing.
use Rattle.channels.proofs.Tying.{takes_out}
use Rattle.channels.proofs.ties.take_out.Goals as goal

pub returns : goal.returns
returns c = takes_out _ _ _ _ _ _ _ _ c.field-next.ensures c.field-previous.ensures c.bypass.ensures c.write.ensures
