-- What lies outside the table of fields: the descriptors are 16 to 24, and no performative has more than fourteen fields.
-- Assumes nothing.
use mathlib.Core.Path.{◌≡◌, refl, sym}
use mathlib.Core.List.{List, [], ◌∷◌}
use mathlib.Core.Bool.{Bool, true, false, cond, ◌&&◌}
use Rattle.std.specs.Prelude.{None, Some}
use Prim.Native.Nat.{ℕ, zero, suc, ◌≤◌}
use native.Mathlib.Omega.{arith}
use lib.Dec.{leb, eqb}
use lib.ListN.{length}
use borrow.Author.Tests.{ne_eqb, leb-true}
use Rattle.performatives.proofs.Bools.{and_first, and_second}
use Rattle.performatives.specs.Fields.{Field, performatives, fields_in, fields_of, field_in, field_of, field_at}

low : ℕ × List Field → Bool
low p = leb 16 p.0

high : ℕ × List Field → Bool
high p = leb p.0 24

few : ℕ × List Field → Bool
few p = leb (length p.1) 14

in_table : List (ℕ × List Field) → Bool
in_table [] = true
in_table (p ∷ ps) = low p && (high p && (few p && in_table ps))

module _ (p : ℕ × List Field) (ps : List (ℕ × List Field)) (h : in_table (p ∷ ps) ≡ true) where
  is_low : 16 ≤ p.0
  unfolding in_table low
  is_low = leb-true _ _ (and_first (low p) _ h)

  is_high : p.0 ≤ 24
  unfolding in_table high
  is_high = leb-true _ _ (and_first (high p) _ (and_second (low p) _ h))

  is_few : length p.1 ≤ 14
  unfolding in_table few
  is_few = leb-true _ _ (and_first (few p) _ (and_second (high p) _ (and_second (low p) _ h)))

  others : in_table ps ≡ true
  unfolding in_table
  others = and_second (few p) _ (and_second (high p) _ (and_second (low p) _ h))

none_in : (code : ℕ) → (16 ≤ code → code ≤ 24 → ⊥) → (ps : List (ℕ × List Field)) → in_table ps ≡ true → fields_in ps code ≡ None
unfolding fields_in
none_in code out [] h = refl
none_in code out (p ∷ ps) h =
    let l = is_low p ps h in
    let m = is_high p ps h in
    rw (ne_eqb code p.0 (λ e. out (omega arith) (omega arith))) (none_in code out ps (others p ps h))

past : (rs : List Field) (i : ℕ) → length rs ≤ i → field_in rs i ≡ None
unfolding field_in
past [] i h = refl
past (r ∷ rs) zero h = absurd (omega arith)
past (r ∷ rs) (suc i) h = past rs i (omega arith)

past_in : (code i : ℕ) → 14 ≤ i → (ps : List (ℕ × List Field)) → in_table ps ≡ true → field_of (fields_in ps code) i ≡ None
unfolding fields_in field_of
past_in code i l [] h = refl
past_in code i l (p ∷ ps) h = go (eqb code p.0) (past_in code i l ps (others p ps h))
  where
    go : (b : Bool) → field_of (fields_in ps code) i ≡ None → field_of (cond b (Some p.1) (fields_in ps code)) i ≡ None
    go true e = let m = is_few p ps h in past p.1 i (omega arith)
    go false e = e

tested : in_table performatives ≡ true
unfolding in_table low high few
tested = refl

-- no performative has this descriptor
pub unknown : (code : ℕ) → (16 ≤ code → code ≤ 24 → ⊥) → fields_of code ≡ None
unfolding fields_of
unknown code out = none_in code out performatives tested

pub row_past : (code i : ℕ) → 14 ≤ i → None ≡ field_at code i
unfolding field_at fields_of
row_past code i h = sym (past_in code i h performatives tested)
