-- `channels::ties::get` meets its contract: a law for each return.
-- Assumes nothing.
use borrow.Author.Rules.{rules}
use borrow.Author.Tests.{not-true, not-false}
use Rattle.channels.proofs.Fields.{has_true}
use Rattle.channels.proofs.Tying.{found_above, found_short, found_none, found}
use Rattle.channels.proofs.ties.get.Goals as goal

pub returns-then-from-k : goal.returns-then-from-k
returns-then-from-k c = search (found_above, rules)

pub returns-then-not-has : goal.returns-then-not-has
returns-then-not-has c = search (found_short, not-true, rules)

pub field-requires : goal.field-requires
field-requires c = search (has_true, not-false, rules)

pub returns-then-field-eq0 : goal.returns-then-field-eq0
returns-then-field-eq0 c = search (found_none, rules)

pub field-requires-2 : goal.field-requires-2
field-requires-2 c = search (has_true, not-false, rules)

pub returns : goal.returns
returns c = search (found, rules)
