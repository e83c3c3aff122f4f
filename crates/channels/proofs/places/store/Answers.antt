-- `channels::places::store` meets its contract: four bytes that are copied are four that are set.
-- Assumes nothing.
use mathlib.Core.Path.{◌∙◌}
use native.Mathlib.Omega.{arith}
use Rattle.channels.proofs.Words.{stored}
use Rattle.channels.proofs.places.store.Goals as goal

pub returns : goal.returns
returns c = stored _ _ _ _ c.requires (omega arith) (c.copy_from_slice.ensures.after ∙ c.to_be_bytes.ensures)
