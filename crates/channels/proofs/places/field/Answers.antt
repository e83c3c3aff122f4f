-- `channels::places::field` meets its contract: by its definition.
-- Assumes nothing.
use borrow.Author.Rules.{rules}
use Rattle.channels.specs.Places.{field}
use Rattle.channels.proofs.places.field.Goals as goal

pub returns : goal.returns
unfolding field
returns c = search rules
