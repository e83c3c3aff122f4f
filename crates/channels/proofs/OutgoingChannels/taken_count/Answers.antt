-- `channels::OutgoingChannels::taken_count` meets its contract: a law for each return.
-- Assumes nothing.
use borrow.Author.Rules.{rules}
use Rattle.channels.proofs.Steps.{counted_over}
use Rattle.channels.proofs.OutgoingChannels.taken_count.Goals as goal

pub returns-then-self : goal.returns-then-self
returns-then-self c = search (counted_over, rules)
