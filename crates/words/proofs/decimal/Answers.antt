-- `decimal`: the number that the loop has, and the digits from the place that it has come to.
-- Assumes nothing.
use mathlib.Core.Path.{refl}
use borrow.Author.Rules.{rules}
use Rattle.words.specs.Words.{decimal_in}
use Rattle.words.proofs.Laws.{decimal_end, decimal_none, decimal_full, decimal_more}
use Rattle.words.proofs.decimal.Goals as goal

ruleset steps = (decimal_end, decimal_none, decimal_full, decimal_more, rules)

pub loop-b-init : goal.loop-b-init
unfolding decimal_in
loop-b-init c = refl

pub returns-in_default : goal.returns-in_default
returns-in_default c = search steps

pub returns-then-d-ge10 : goal.returns-then-d-ge10
returns-then-d-ge10 c = search steps

pub returns-then-n-ge1000000000000000000 : goal.returns-then-n-ge1000000000000000000
returns-then-n-ge1000000000000000000 c = search steps

pub loop-b-preserved : goal.loop-b-preserved
loop-b-preserved c = search steps

pub returns : goal.returns
returns c = search steps
