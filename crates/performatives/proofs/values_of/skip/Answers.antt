-- `skip`: one turn for each value. The loop's invariant is where the turns so far have come to.
-- Assumes nothing.
use borrow.Author.Rules.{rules}
use Rattle.performatives.proofs.Found.{skip_none, skip_next}
use Rattle.performatives.proofs.values_of.skip.Goals as goal

ruleset steps = (skip_none, skip_next, rules)

pub loop-k-init : goal.loop-k-init
loop-k-init c = search steps

pub loop-k-preserved : goal.loop-k-preserved
loop-k-preserved c = search steps
