-- `copy`: the loop keeps what is pasted so far.
-- Assumes nothing.
use mathlib.Core.Path.{refl}
use lib.ListN.{length-set}
use lib.Seq.{paste-zero}
use borrow.Author.Rules.{rules}
use Rattle.octets.proofs.Laws.{put_past}
use Rattle.octets.proofs.Steps.{copy_over, copy_more, copy_done}
use Rattle.octets.proofs.copy.Goals as goal

ruleset steps = (put_past, copy_over, copy_done, rules)

pub returns-then-out-at : goal.returns-then-out-at
returns-then-out-at c = search steps

pub returns-then-out-at-2 : goal.returns-then-out-at-2
returns-then-out-at-2 c = search steps

pub loop-i-init : goal.loop-i-init
loop-i-init c = (refl, search paste-zero)

pub bounds-out-at : goal.bounds-out-at
bounds-out-at c = search steps

pub loop-i-preserved : goal.loop-i-preserved
loop-i-preserved c = (simp length-set c.loop-i.invariant.0, search copy_more)

pub returns : goal.returns
returns c = search steps
