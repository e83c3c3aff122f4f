-- `channels::OutgoingChannels::deallocate` meets its contract: a law for each return.
-- Assumes nothing.
use mathlib.Core.Path.{refl}
use borrow.Author.Rules.{rules}
use borrow.Author.Tests.{not-true}
use Rattle.channels.proofs.Fields.{has_true}
use Rattle.channels.proofs.Steps.{freed_none, freed_over, freed_uncovered, freed}
use Rattle.channels.proofs.OutgoingChannels.deallocate.Goals as goal

pub returns-in_default : goal.returns-in_default
returns-in_default c = search (freed_none, rules)

pub returns-then-self-freed : goal.returns-then-self-freed
returns-then-self-freed c = search (freed_over, rules)

pub returns-then-not-has : goal.returns-then-not-has
returns-then-not-has c = search (freed_uncovered, not-true, rules)

pub write-requires : goal.write-requires
write-requires c = (has_true _ _ _ c.has.ensures c.if-not-has.false, search rules)

pub returns : goal.returns
returns c =
    freed _ _ _ _ c.in-Some.ensures _ refl c.if-self-freed.false _ c.from-k.ensures _ c.has.ensures
    c.if-not-has.false (search rules) _ c.next_free.ensures _ c.write.ensures
