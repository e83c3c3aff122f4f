-- Parts of bytes.
-- Assumes nothing.
use mathlib.Core.Path.{◌≡◌, sym}
use mathlib.Core.List.{List, [], ◌∷◌}
use Prim.Native.Nat.{ℕ, zero, suc, ◌-◌}
use native.Mathlib.Omega.{arith}
use lib.ListN.{take, drop}
use lib.Seq.{take-nil}

pub drop_take : (a n : ℕ) (t : List ℕ) → drop a (take n t) ≡ take (n - a) (drop a t)
drop_take zero n t = let k : n - 0 ≡ n = omega arith in rw k
drop_take (suc a) zero t = let k : 0 - suc a ≡ 0 = omega arith in rw k
drop_take (suc a) (suc n) [] = sym (take-nil (suc n - suc a))
drop_take (suc a) (suc n) (b ∷ t) = let k : suc n - suc a ≡ n - a = omega arith in rw k (drop_take a n t)
