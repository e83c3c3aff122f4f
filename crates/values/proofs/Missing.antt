-- Null, and what is missing: each step of `is_null`.
-- Assumes nothing.
use mathlib.Core.Path.{◌≡◌, refl, sym}
use mathlib.Core.Bool.{true, or-false}
use mathlib.Core.List.{List, [], ◌∷◌}
use Prim.Native.Nat.{ℕ}
use native.Mathlib.Omega.{arith}
use lib.Dec.{eqb}
use lib.ListN.{length, get_or}
use Rattle.octets.specs.Octets.{starts_with}
use Rattle.values.specs.Null.{is_null, or_null}

pub null_missing : (f : List ℕ) → length f ≡ 0 → true ≡ is_null (or_null f)
unfolding starts_with
null_missing [] h = refl
null_missing (b ∷ f) h = absurd (omega arith)

pub null_first : (f : List ℕ) → (length f ≡ 0 → ⊥) → eqb (get_or f 0 0) 0x40 ≡ is_null (or_null f)
unfolding starts_with
null_first [] h = absurd (h refl)
null_first (b ∷ f) h = sym (or-false (eqb b 0x40))
