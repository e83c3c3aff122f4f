-- `channels::places::write` meets its contract: by its definition.
-- Assumes nothing.
use borrow.Author.Rules.{rules}
use Rattle.channels.specs.Places.{write}
use Rattle.channels.proofs.places.write.Goals as goal

pub returns : goal.returns
unfolding write
returns c = search rules
