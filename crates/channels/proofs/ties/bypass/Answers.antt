-- `channels::ties::bypass` meets its contract: its steps one after the other.
-- Assumes nothing.
use Rattle.channels.proofs.Tying.{bypasses}
use Rattle.channels.proofs.ties.bypass.Goals as goal

pub returns : goal.returns
returns c = bypasses _ _ _ _ _ _ _ c.lead_to.ensures c.come_from.ensures
