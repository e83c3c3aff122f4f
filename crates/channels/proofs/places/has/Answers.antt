-- `channels::places::has` meets its contract: by its definition.
-- Assumes nothing.
use borrow.Author.Rules.{rules}
use Rattle.channels.proofs.Fields.{has_is}
use Rattle.channels.proofs.places.has.Goals as goal

pub returns : goal.returns
returns c = search (has_is, rules)
