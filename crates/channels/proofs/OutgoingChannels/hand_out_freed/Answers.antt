-- `channels::OutgoingChannels::hand_out_freed` meets its contract: a law for each return.
-- Assumes nothing.
use borrow.Author.Rules.{rules}
use borrow.Author.Tests.{not-true, not-false}
use Rattle.channels.proofs.Fields.{has_true}
use Rattle.channels.proofs.Steps.{freed_full, freed_short, freed_astray, freed_taken}
use Rattle.channels.proofs.OutgoingChannels.hand_out_freed.Goals as goal

pub returns-then-from-k : goal.returns-then-from-k
returns-then-from-k c = search (freed_full, rules)

pub returns-then-not-has : goal.returns-then-not-has
returns-then-not-has c = search (freed_short, not-true, rules)

pub after_head-next-requires : goal.after_head-next-requires
after_head-next-requires c = search (has_true, not-false, rules)

pub returns-then-self-next : goal.returns-then-self-next
returns-then-self-next c = search (freed_astray, not-false, rules)

pub take-requires : goal.take-requires
take-requires c = has_true _ _ _ c.has.ensures c.if-not-has.false

pub returns : goal.returns
returns c = search (freed_taken, not-false, rules)
