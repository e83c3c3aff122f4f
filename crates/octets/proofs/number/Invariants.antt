-- `number`: the loop keeps the number of the bytes passed and its bound.
-- Assumes nothing.
use mathlib.Core.Path.{◌≡◌}
use Prim.Native.Nat.{◌*◌, ◌^◌, ◌<◌, ◌≤◌}
use lib.ListN.{take}
use Rattle.octets.specs.Octets.{big_endian}
use Rattle.octets.proofs.number.Given as goal

abbrev pub invariant-loop-i : goal.invariant-loop-i
invariant-loop-i l = (l.i ≤ 8) × (l.x < 2 ^ (8 * l.i)) × (l.x ≡ big_endian (take l.i l.s))
