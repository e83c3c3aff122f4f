-- `put_number`: the loop goes from the last byte to the first; its invariant is `Laid`.
-- Assumes nothing.
use Prim.Native.Nat.{◌-◌}
use Rattle.octets.proofs.Steps.{Laid}
use Rattle.octets.proofs.put_number.Given as goal

abbrev pub invariant-loop-i : goal.invariant-loop-i
invariant-loop-i l = Laid l.initial.out l.at l.w l.x l.out (l.i - l.at) l.y
