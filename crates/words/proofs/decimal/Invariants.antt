-- `decimal`: the number that the loop has, and the digits from the place that it has come to.
-- Assumes nothing.
use mathlib.Core.Path.{◌≡◌}
use lib.ListN.{drop}
use Rattle.words.specs.Words.{decimal_from, decimal_in}
use Rattle.words.proofs.decimal.Given as goal

abbrev pub invariant-loop-b : goal.invariant-loop-b
invariant-loop-b l = decimal_in l.s ≡ decimal_from l.n (drop l.b-index l.s)
