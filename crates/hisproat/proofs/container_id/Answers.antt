-- `container_id`: none where it is too long, or the bytes.
-- Assumes nothing.
use mathlib.Core.Path.{refl}
use Rattle.hisproat.proofs.Starting.{id_over, id_within}
use Rattle.hisproat.proofs.container_id.Goals as goal

pub returns-then-n-gt255 : goal.returns-then-n-gt255
returns-then-n-gt255 c = id_over _ _ _ c.requires c.number-n.ensures c.if-n-gt255.true

pub returns : goal.returns
returns c = id_within _ _ _ c.requires c.number-n.ensures c.if-n-gt255.false refl
