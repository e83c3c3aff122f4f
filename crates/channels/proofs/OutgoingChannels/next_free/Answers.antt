-- `channels::OutgoingChannels::next_free` meets its contract: a law for each return.
-- Assumes nothing.
use borrow.Author.Rules.{rules}
use Rattle.channels.proofs.Steps.{no_next, first_next}
use Rattle.channels.proofs.OutgoingChannels.next_free.Goals as goal

pub returns-then-self-eq0 : goal.returns-then-self-eq0
returns-then-self-eq0 c = search (no_next, rules)

pub returns : goal.returns
returns c = search (first_next, rules)
