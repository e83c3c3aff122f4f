-- `channels::OutgoingChannels::allocate` meets its contract: a law for each return.
-- Assumes nothing.
use borrow.Author.Rules.{rules}
use borrow.Author.Tests.{not-true, not-false}
use Rattle.channels.proofs.Steps.{not_opened}
use Rattle.channels.proofs.OutgoingChannels.allocate.Goals as goal

pub returns-then-not-self : goal.returns-then-not-self
returns-then-not-self c = search (not_opened, not-true, rules)

pub hand_out_new-requires : goal.hand_out_new-requires
hand_out_new-requires c = search (not-false, rules)

pub hand_out_freed-requires : goal.hand_out_freed-requires
hand_out_freed-requires c = search (not-false, rules)
