-- `channels::OutgoingChannels::open` meets its contract: a law for each return.
-- Assumes nothing.
use borrow.Author.Rules.{rules}
use Rattle.channels.proofs.Opening.{opens_again, opens_first}
use Rattle.channels.proofs.OutgoingChannels.open.Goals as goal

pub returns-then-self : goal.returns-then-self
returns-then-self c = search (opens_again, rules)

pub returns : goal.returns
returns c = search (opens_first, rules)
