-- `channels::ties::drop_from` meets its contract: the loop's invariant and measure, and a law for each return.
-- Assumes nothing.
use Prim.Native.Nat.{suc, ◌+◌}
use Rattle.channels.specs.Places.{Covers}
use Rattle.channels.proofs.Dropping.{marked, Dropping}
use Rattle.channels.proofs.ties.drop_from.Given as goal

abbrev pub invariant-loop-e : goal.invariant-loop-e
invariant-loop-e l = Covers (suc l.top) l.t × Dropping (suc l.top) l.first l.initial.t l.t l.e

abbrev pub decreases-loop-e : goal.decreases-loop-e
decreases-loop-e l = marked (suc l.top) l.t (l.outgoing + 1)
