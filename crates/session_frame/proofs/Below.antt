-- What the definitions of the crates below say of what was read.
-- Assumes nothing.
use mathlib.Core.Path.{◌≡◌, refl, ap}
use mathlib.Core.Bool.{Bool, true, false, cond, ◌&&◌}
use mathlib.Core.List.{List, [], ◌∷◌}
use Rattle.std.specs.Prelude.{Option, None, Some}
use Prim.Native.Nat.{ℕ, zero, suc, ◌+◌, ◌<◌, ◌≤◌}
use native.Mathlib.Numerals.{add-one}
use native.Mathlib.Omega.{arith}
use lib.ListN.{length, drop, length-drop}
use lib.Dec.{leb, eqb}
use borrow.Author.Tests.{leb-true}
use Rattle.octets.specs.Verdict.{accept}
use Rattle.performatives.specs.Fields.{Field, performatives, fields_in, fields_of, field_in, field_of, field_at}
use Rattle.performatives.specs.Performative.{Described, described}
use Rattle.performatives.proofs.Bounds.{described_lies}
use Rattle.session_frame.specs.Parts.{rows_in, fields_from}

-- the values of a described list lie in it
pub described_in : (f : List ℕ) (d : Described) → described f ≡ accept d → (d.from ≤ d.end) × (d.end ≤ length f)
described_in f d e = let l = described_lies f d e in (l.ordered, l.inside)

-- ---- the rows of a performative

few : List (ℕ × List Field) → Bool
few [] = true
few (p ∷ ps) = leb (length p.1) 14 && few ps

and_left : (a b : Bool) → (a && b) ≡ true → a ≡ true
and_left true b e = refl
and_left false b e = e

and_right : (a b : Bool) → (a && b) ≡ true → b ≡ true
and_right true b e = e
and_right false b e = let z : ◌≡◌ {A = ℕ} 0 1 = cc in absurd (omega arith)

few_in : (ps : List (ℕ × List Field)) (code : ℕ) → few ps ≡ true → length (rows_in (fields_in ps code)) ≤ 14
unfolding few fields_in
few_in [] code e = omega arith
few_in (p ∷ ps) code e = go (eqb code p.0) (few_in ps code (and_right (leb (length p.1) 14) (few ps) e))
  where
    go : (b : Bool) → length (rows_in (fields_in ps code)) ≤ 14 → length (rows_in (cond b (Some p.1) (fields_in ps code))) ≤ 14
    go true h = leb-true _ _ (and_left (leb (length p.1) 14) (few ps) e)
    go false h = h

-- no performative has more than fourteen
pub rows_few : (code : ℕ) → length (rows_in (fields_of code)) ≤ 14
unfolding fields_of few
rows_few code = few_in performatives code refl

row_some : (rows : List Field) (i : ℕ) (r : Field) → field_in rows i ≡ Some r → (drop i rows ≡ r ∷ drop (suc i) rows) × (i < length rows)
unfolding field_in
row_some [] i r e = let z : ◌≡◌ {A = ℕ} 0 1 = cc in absurd (omega arith)
row_some (x ∷ rows) zero r e = let q : x ≡ r = cc in (ap (λ (y : Field). y ∷ rows) q, omega arith)
row_some (x ∷ rows) (suc i) r e = let h = row_some rows i r e in (h.0, omega (arith, h.1))

row_none : (rows : List Field) (i : ℕ) → field_in rows i ≡ None → drop i rows ≡ []
unfolding field_in
row_none [] zero e = refl
row_none [] (suc i) e = refl
row_none (x ∷ rows) zero e = let z : ◌≡◌ {A = ℕ} 0 1 = cc in absurd (omega arith)
row_none (x ∷ rows) (suc i) e = row_none rows i e

at_some : (o : Option (List Field)) (i : ℕ) (r : Field) → field_of o i ≡ Some r → (drop i (rows_in o) ≡ r ∷ drop (suc i) (rows_in o)) × (i < length (rows_in o))
unfolding field_of
at_some None i r e = let z : ◌≡◌ {A = ℕ} 0 1 = cc in absurd (omega arith)
at_some (Some rows) i r e = row_some rows i r e

at_none : (o : Option (List Field)) (i : ℕ) → field_of o i ≡ None → drop i (rows_in o) ≡ []
unfolding field_of
at_none None zero e = refl
at_none None (suc i) e = refl
at_none (Some rows) i e = row_none rows i e

pub from_some : (code i : ℕ) (r : Field) → field_at code i ≡ Some r → fields_from code i ≡ r ∷ fields_from code (i + 1)
unfolding field_at fields_from
from_some code i r e = rw add-one (at_some (fields_of code) i r e).0

pub from_few : (code i : ℕ) (r : Field) → field_at code i ≡ Some r → i < 14
unfolding field_at
from_few code i r e = omega (arith, (at_some (fields_of code) i r e).1, rows_few code)

pub from_none : (code i : ℕ) → field_at code i ≡ None → fields_from code i ≡ []
unfolding field_at fields_from
from_none code i e = at_none (fields_of code) i e

pub rows_left : (code i : ℕ) → length (fields_from code i) ≤ 14
unfolding fields_from
rows_left code i = omega (arith, length-drop i (rows_in (fields_of code)), rows_few code)
