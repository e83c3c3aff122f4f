-- `channels::OutgoingChannels::agreed_max` meets its contract: there is one once the peer's Open has come.
-- Assumes nothing.
use borrow.Author.Rules.{rules}
use Rattle.channels.specs.Channels.{agreed_says}
use Rattle.channels.proofs.OutgoingChannels.agreed_max.Goals as goal

pub returns : goal.returns
unfolding agreed_says
returns c = search rules
