-- `channels::ties::clear` meets its contract: the loop's invariant, and a law for each of its steps.
-- Assumes nothing.
use Prim.Native.Nat.{suc}
use Rattle.channels.specs.Places.{Covers}
use Rattle.channels.proofs.Tying.{ClearedTo}
use Rattle.channels.proofs.ties.clear.Given as goal

abbrev pub invariant-loop-k : goal.invariant-loop-k
invariant-loop-k l = ClearedTo (suc l.highest) l.k l.initial.t l.t × Covers (suc l.highest) l.initial.t
