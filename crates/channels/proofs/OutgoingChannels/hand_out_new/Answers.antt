-- `channels::OutgoingChannels::hand_out_new` meets its contract: a law for each return.
-- Assumes nothing.
use borrow.Author.Rules.{rules}
use borrow.Author.Tests.{not-true, not-false}
use Rattle.channels.proofs.Fields.{has_true}
use Rattle.channels.proofs.Steps.{new_full, new_short, new_taken}
use Rattle.channels.proofs.OutgoingChannels.hand_out_new.Goals as goal

pub returns-then-from-k : goal.returns-then-from-k
returns-then-from-k c = search (new_full, rules)

pub returns-then-not-has : goal.returns-then-not-has
returns-then-not-has c = search (new_short, not-true, rules)

pub take-requires : goal.take-requires
take-requires c = search (has_true, not-false, rules)

pub returns : goal.returns
returns c = search (new_taken, not-false, rules)
