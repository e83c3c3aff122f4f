-- `channels::places::word` meets its contract: by its definition.
-- Assumes nothing.
use Rattle.channels.specs.Places.{word}
use Rattle.channels.proofs.places.word.Goals as goal

pub returns : goal.returns
unfolding word
returns c = c.from_be_bytes.ensures
