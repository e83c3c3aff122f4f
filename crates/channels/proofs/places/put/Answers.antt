-- `channels::places::put` meets its contract: a law for each return.
-- Assumes nothing.
use borrow.Author.Rules.{rules}
use Rattle.channels.proofs.Fields.{puts, puts_not}
use Rattle.channels.proofs.places.put.Goals as goal

pub returns-then-top-k : goal.returns-then-top-k
returns-then-top-k c = search (puts_not, rules)

pub returns : goal.returns
returns c = search (puts, rules)
