-- `channels::OutgoingChannels::handle_at` meets its contract: a law for each return.
-- Assumes nothing.
use borrow.Author.Rules.{rules}
use borrow.Author.Tests.{not-true, not-false}
use Rattle.channels.proofs.Fields.{has_true}
use Rattle.channels.proofs.Steps.{found_past, found_short, found_free, found_taken}
use Rattle.channels.proofs.OutgoingChannels.handle_at.Goals as goal

pub returns-then-self-k : goal.returns-then-self-k
returns-then-self-k c = search (found_past, rules)

pub returns-then-not-has : goal.returns-then-not-has
returns-then-not-has c = search (found_short, not-true, rules)

pub field-requires : goal.field-requires
field-requires c = search (has_true, not-false, rules)

pub returns-then-field-ne-TAKEN : goal.returns-then-field-ne-TAKEN
returns-then-field-ne-TAKEN c = search (found_free, rules)

pub field-requires-2 : goal.field-requires-2
field-requires-2 c = (has_true _ _ _ c.has.ensures c.if-not-has.false, search rules)

pub returns : goal.returns
returns c = search (found_taken, rules)
