-- `skip`: one turn for each value. The loop's invariant is where the turns so far have come to.
-- Assumes nothing.
use mathlib.Core.Path.{◌≡◌}
use Rattle.performatives.specs.Inner.{skip}
use Rattle.performatives.proofs.values_of.skip.Given as goal

abbrev pub invariant-loop-k : goal.invariant-loop-k
invariant-loop-k l = l.at ≡ skip l._k l.s
