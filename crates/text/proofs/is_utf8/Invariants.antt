-- `text::is_utf8` meets its contract. The invariant: s is UTF-8 just where what is left of it is.
-- Assumes nothing.
use mathlib.Core.Path.{◌≡◌}
use lib.ListN.{length}
use Rattle.text.specs.Utf8.{utf8}
use Rattle.text.proofs.is_utf8.Given as goal

abbrev pub invariant-loop-n : goal.invariant-loop-n
invariant-loop-n l = utf8 l.s ≡ utf8 l.rest

abbrev pub decreases-loop-n : goal.decreases-loop-n
decreases-loop-n l = length l.rest
