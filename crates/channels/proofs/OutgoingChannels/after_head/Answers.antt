-- `channels::OutgoingChannels::after_head` meets its contract: a law for each return.
-- Assumes nothing.
use borrow.Author.Rules.{rules}
use Rattle.channels.proofs.Steps.{after_none, after_one}
use Rattle.channels.proofs.OutgoingChannels.after_head.Goals as goal

pub returns-then-self-le1 : goal.returns-then-self-le1
returns-then-self-le1 c = search (after_none, rules)

pub returns : goal.returns
returns c = search (after_one, rules)
