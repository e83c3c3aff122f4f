-- `send_waiting`: the loop keeps that the frames before `at` are sent, and that what is left is the rest of the trail.
-- Assumes nothing.
use Prim.Native.Nat.{◌-◌}
use Rattle.engine.proofs.Draining.{Going}
use Rattle.engine.proofs.sending.send_waiting.Given as goal

abbrev pub invariant-loop-sent : goal.invariant-loop-sent
invariant-loop-sent l = Going l.initial.sender l.initial.tables l.count l.waiting l.initial.out l.out l.sender l.tables l.at (l.count - l._sent) l.written l.last
