-- `word`: from each place that the loop has come to, the word is that many words further on.
-- Assumes nothing.
use mathlib.Core.Path.{◌≡◌}
use Prim.Native.Nat.{◌-◌}
use lib.ListN.{drop}
use Rattle.words.specs.Words.{word_in}
use Rattle.words.proofs.word.Given as goal

abbrev pub invariant-loop-passed : goal.invariant-loop-passed
invariant-loop-passed l = word_in l.n l.line ≡ word_in (l.n - l._passed) (drop l.at l.line)
