-- `channels::ties::clear` meets its contract: the loop's invariant, and a law for each of its steps.
-- Assumes nothing.
use native.Mathlib.Omega.{arith}
use borrow.Author.Rules.{rules}
use borrow.Author.Tests.{not-true, not-false}
use Rattle.channels.proofs.Fields.{has_true}
use Rattle.channels.proofs.Tying.{cleared_none, cleared_more, cleared_short, cleared_all}
use Rattle.channels.proofs.ties.clear.Goals as goal

pub returns-then-not-covers : goal.returns-then-not-covers
returns-then-not-covers c = search (cleared_short, not-true, rules)

pub loop-k-init : goal.loop-k-init
loop-k-init c = search (cleared_none, has_true, not-false, rules)

pub loop-k-preserved : goal.loop-k-preserved
loop-k-preserved c =
    let i = c.loop-k.invariant in
    (cleared_more _ _ _ _ _ _ (omega arith) i.1 i.0 c.write.ensures c.write-in-loop-k.ensures, i.1)

pub returns-else-not-covers : goal.returns-else-not-covers
returns-else-not-covers c = absurd (omega arith)

pub returns-else-not-covers-2 : goal.returns-else-not-covers-2
returns-else-not-covers-2 c =
    let i = c.loop-k.invariant in
    cleared_all _ _ _ _ (omega arith) (cleared_more _ _ _ _ _ _ (omega arith) i.1 i.0 c.write.ensures c.write-in-loop-k.ensures)
