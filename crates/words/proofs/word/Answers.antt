-- `word`: from each place that the loop has come to, the word is that many words further on.
-- Assumes nothing.
use mathlib.Core.Path.{sym, ap}
use Prim.Native.Nat.{ℕ}
use native.Mathlib.Nat.{sub-zero}
use borrow.Author.Rules.{rules}
use Rattle.words.specs.Words.{word_in}
use Rattle.words.proofs.Laws.{word_next, word_here}
use Rattle.words.proofs.word.Goals as goal

pub loop-passed-init : goal.loop-passed-init
loop-passed-init c = ap (λ (k : ℕ). word_in k c.args.line.now) (sym (sub-zero c.args.n))

pub loop-passed-preserved : goal.loop-passed-preserved
loop-passed-preserved c = search (word_next, rules)

pub returns : goal.returns
returns c = search (word_here, rules)
