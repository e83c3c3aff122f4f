-- `hex`: what has been laid down.
-- Assumes nothing.
use mathlib.Core.Path.{◌≡◌}
use lib.Seq.{paste}
use Rattle.words.specs.Words.{hex_for}
use Rattle.words.proofs.hex.Given as goal

abbrev pub invariant-loop-i : goal.invariant-loop-i
invariant-loop-i l = l.out ≡ paste l.initial.out 0 (hex_for l.w l.initial.out) l.i
