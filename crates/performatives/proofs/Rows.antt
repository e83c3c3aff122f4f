-- Fields by their rows: what each step of `suits` and `fields` shows, for all rows together.
-- Assumes nothing.
use mathlib.Core.Path.{◌≡◌, refl, sym, ap, ◌∙◌}
use mathlib.Core.Bool.{Bool, true, false, cond, not, ◌&&◌, and-false}
use mathlib.Core.List.{List, [], ◌∷◌}
use Rattle.std.specs.Prelude.{Option, None, Some}
use Prim.Native.Nat.{ℕ, zero, suc, ◌+◌, ◌-◌, ◌*◌, ◌/◌, ◌%◌, ◌^◌, ◌<◌, ◌≤◌}
use native.Mathlib.Nat.{sub-zero, div-one, div-div-eq-div-mul, pow-suc}
use native.Mathlib.Numerals.{add-one}
use native.Mathlib.Omega.{arith}
use lib.Dec.{eqb, leb}
use lib.Seq.{drop-nil, drop-drop, drop-length}
use lib.ListN.{length, take, drop, length-drop}
use borrow.Author.Tests.{ne_eqb, le-leb, lt-leb, leb-true, leb-false}
use Rattle.octets.specs.Verdict.{Verdict, refuse, accept, require, and_then, accepts}
use Rattle.values.specs.Value.{value_end}
use Rattle.values.specs.Null.{is_null}
use Rattle.values.specs.Answers.{place_after}
use Rattle.values.proofs.Places.{place_off, place_on, place_in}
use Rattle.performatives.specs.declared.FieldType as C
use Rattle.performatives.specs.Fields.{Field, fields_of, field_in, field_of, field_at}
use Rattle.performatives.specs.Performative.{has_type, fits, fit, split, fields_by}
use Rattle.performatives.specs.Answers.{type_says}
use Rattle.performatives.specs.Inner.{rows_in, rows_from, row_in, row_named, RowsIn, suits, skip, last_of}
use Rattle.performatives.proofs.Table.{row_past}
use Rattle.performatives.proofs.Bounds.{fields_six}

-- ---- the rows from field i on

none_left : (rows : List Field) (i : ℕ) → field_in rows i ≡ None → drop i rows ≡ []
unfolding field_in
none_left [] i e = drop-nil i
none_left (r ∷ rows) zero e = let z : ◌≡◌ {A = ℕ} 0 1 = cc in absurd (omega arith)
none_left (r ∷ rows) (suc i) e = none_left rows i e

one_left : (rows : List Field) (i : ℕ) (r : Field) → field_in rows i ≡ Some r → drop i rows ≡ r ∷ drop (suc i) rows
unfolding field_in
one_left [] i r e = let z : ◌≡◌ {A = ℕ} 0 1 = cc in absurd (omega arith)
one_left (x ∷ rows) zero r e = let q : x ≡ r = cc in ap (λ (y : Field). y ∷ rows) q
one_left (x ∷ rows) (suc i) r e = one_left rows i r e

none_of : (o : Option (List Field)) (i : ℕ) → field_of o i ≡ None → drop i (rows_in o) ≡ []
unfolding field_of
none_of None i e = drop-nil i
none_of (Some rows) i e = none_left rows i e

one_of : (o : Option (List Field)) (i : ℕ) (r : Field) → field_of o i ≡ Some r → drop i (rows_in o) ≡ r ∷ drop (suc i) (rows_in o)
unfolding field_of
one_of None i r e = let z : ◌≡◌ {A = ℕ} 0 1 = cc in absurd (omega arith)
one_of (Some rows) i r e = one_left rows i r e

pub none_from : (code i : ℕ) → field_at code i ≡ None → rows_from code i ≡ []
unfolding rows_from field_at
none_from code i e = none_of (fields_of code) i e

more_from : (code i : ℕ) (r : Field) → field_at code i ≡ Some r → rows_from code i ≡ r ∷ rows_from code (i + 1)
unfolding rows_from field_at
more_from code i r e = one_of (fields_of code) i r e ∙ rw add-one

-- ---- one step

judged : {A : Type 0} (b : Bool) (a : A) → accepts (require 6 b (λ _. accept a)) ≡ b
unfolding require accepts
judged true a = refl
judged false a = refl

over : (n : ℕ) (s : List ℕ) (w : Verdict (List (List ℕ))) → false ≡ accepts (and_then (and_then w (λ fs. accept (take n s ∷ fs))) (λ fs. require 6 (fit [] fs) (λ _. accept fs)))
unfolding and_then fit require accepts
over n s (refuse k) = refl
over n s (accept fs) = refl

at_over : (k : ℕ) (s : List ℕ) → false ≡ accepts (fields_by [] (suc k) s)
unfolding fields_by split and_then accepts
at_over k s = go (value_end 16 s)
  where
    go : (v : Verdict ℕ) → false ≡ accepts (and_then (and_then v (λ n. and_then (split 16 k (drop n s)) (λ fs. accept (take n s ∷ fs)))) (λ fs. require 6 (fit [] fs) (λ _. accept fs)))
    go (refuse j) = refl
    go (accept n) = over n s (split 16 k (drop n s))

at_malformed : (rows : List Field) (c : ℕ) (s : List ℕ) (k : ℕ) → value_end 16 s ≡ refuse k → false ≡ accepts (fields_by rows (suc c) s)
unfolding fields_by split and_then accepts
at_malformed rows c s k e = rw e

module _ (r : Field) (rest : List Field) (c : ℕ) (s : List ℕ) (n : ℕ) (e : value_end 16 s ≡ accept n) where
  step : accepts (fields_by (r ∷ rest) (suc c) s) ≡ fits r.type r.mandatory (take n s) && accepts (fields_by rest c (drop n s))
  unfolding fields_by split and_then fit accepts
  step = rw e (go (split 16 c (drop n s)))
    where
      go : (w : Verdict (List (List ℕ))) → accepts (and_then (and_then w (λ fs. accept (take n s ∷ fs))) (λ fs. require 6 (fit (r ∷ rest) fs) (λ _. accept fs))) ≡ fits r.type r.mandatory (take n s) && accepts (and_then w (λ fs. require 6 (fit rest fs) (λ _. accept fs)))
      go (refuse k) = sym (and-false (fits r.type r.mandatory (take n s)))
      go (accept fs) =
          judged (fits r.type r.mandatory (take n s) && fit rest fs) (take n s ∷ fs)
          ∙ ap (λ (b : Bool). fits r.type r.mandatory (take n s) && b) (sym (judged (fit rest fs) fs))

-- no field is left to read
at_last : (rows : List Field) (t : List ℕ) → accepts (fields_by rows 0 t) ≡ eqb (length t) 0 && fit rows []
unfolding fields_by split and_then accepts
at_last rows [] = judged (fit rows []) []
at_last rows (b ∷ t) = rw (ne_eqb (suc (length t)) 0 (λ e. omega arith))

-- more values than rows
at_many : (rows : List Field) (c : ℕ) (s : List ℕ) → length rows < c → false ≡ accepts (fields_by rows c s)
at_many rows zero s h = absurd (omega arith)
at_many [] (suc c) s h = at_over c s
at_many (r ∷ rows) (suc c) s h = go (value_end 16 s) refl (λ n. at_many rows c (drop n s) (omega arith))
  where
    go : (v : Verdict ℕ) → value_end 16 s ≡ v → ((n : ℕ) → false ≡ accepts (fields_by rows c (drop n s))) → false ≡ accepts (fields_by (r ∷ rows) (suc c) s)
    go (refuse k) e more = at_malformed (r ∷ rows) c s k e
    go (accept n) e more = sym (step r rows c s n e ∙ rw (← more n) (and-false (fits r.type r.mandatory (take n s))))

pub at_few : (rows : List Field) (c : ℕ) (s : List ℕ) → accepts (fields_by rows c s) ≡ true → c ≤ length rows
at_few rows c s e = go (leb c (length rows)) refl
  where
    go : (b : Bool) → leb c (length rows) ≡ b → c ≤ length rows
    go true h = leb-true _ _ h
    go false h =
        let q : false ≡ true = at_many rows c s (leb-false _ _ h) ∙ e in
        let z : ◌≡◌ {A = ℕ} 0 1 = cc in absurd (omega arith)

-- ---- the steps of `suits`

module _ (f : List ℕ) (letter : ℕ) where
  pub suits_past : None ≡ row_named letter → false ≡ suits (row_named letter) f
  unfolding suits
  suits_past p = rw (← p)

  pub suits_row : (kind : C.FieldType) (mandatory : Bool) (default : Option ℕ) (b : Bool) → Some (record { type = type_says kind; mandatory = mandatory; default = default }) ≡ row_named letter → b ≡ fits (type_says kind) mandatory f → b ≡ suits (row_named letter) f
  unfolding suits
  suits_row kind mandatory default b p q = rw (← p) q

-- any value may stand in a field of any type
any_suits : (f : List ℕ) → suits (row_named 0) f ≡ true
unfolding suits row_named row_in fits has_type
any_suits f = go (is_null f)
  where
    go : (b : Bool) → cond b (not false) true ≡ true
    go true = refl
    go false = refl

-- ---- the turns of `fields`

-- the letters of a word from field i on
abbrev pub From : ℕ → ℕ → ℕ → Type 0
From word i rows = rows ≡ word / 2 ^ (4 * i)

pub from_first : (word : ℕ) → From word 0 word
from_first word = sym (div-one word)

sixteenfold : (m : ℕ) → 2 ^ m * 16 ≡ 2 ^ suc (suc (suc (suc m)))
sixteenfold m = omega (arith, pow-suc 2 m, pow-suc 2 (suc m), pow-suc 2 (suc (suc m)), pow-suc 2 (suc (suc (suc m))))

pub from_next : (word i rows : ℕ) → From word i rows → From word (i + 1) (rows / 16)
from_next word i rows g =
    let e : suc (suc (suc (suc (4 * i)))) ≡ 4 * (i + 1) = omega arith in
    rw g (div-div-eq-div-mul word (2 ^ (4 * i)) 16 ∙ ap (λ (n : ℕ). word / n) (sixteenfold (4 * i) ∙ ap (λ (n : ℕ). 2 ^ n) e))

-- what the fields say, and what is left to say after i of them and `at` bytes
abbrev pub Left : ℕ → ℕ → List ℕ → ℕ → ℕ → Type 0
Left code count s i at = accepts (fields_by (rows_from code 0) count s) ≡ accepts (fields_by (rows_from code i) (count - i) (drop at s))

pub left_first : (code count : ℕ) (s : List ℕ) → Left code count s 0 0
left_first code count s = rw (sub-zero count)

rows_few : (code : ℕ) → length (rows_from code 0) ≤ 14
unfolding rows_from
rows_few code =
    let e : drop 14 (rows_in (fields_of code)) ≡ [] = none_from code 14 (sym (row_past code 14 (omega arith))) in
    omega (arith, length-drop 14 (rows_in (fields_of code)), ap length e)

pub fields_many : (code count : ℕ) (s : List ℕ) → 14 < count → false ≡ accepts (fields_by (rows_from code 0) count s)
fields_many code count s h = at_many (rows_from code 0) count s (omega (arith, rows_few code))

-- a field that is there, by the place after it
step_at : (code i k at end : ℕ) (s : List ℕ) → at ≤ end → value_end 16 (drop at s) ≡ accept (end - at) → accepts (fields_by (rows_from code i) (suc k) (drop at s)) ≡ suits (field_at code i) (take (end - at) (drop at s)) && accepts (fields_by (rows_from code (i + 1)) k (drop end s))
unfolding suits
step_at code i k at end s l v = go (field_at code i) refl
  where
    go : (o : Option Field) → field_at code i ≡ o → accepts (fields_by (rows_from code i) (suc k) (drop at s)) ≡ suits o (take (end - at) (drop at s)) && accepts (fields_by (rows_from code (i + 1)) k (drop end s))
    go None e = rw (none_from code i e) (sym (at_over k (drop at s)))
    go (Some r) e =
        let d : at + (end - at) ≡ end = omega arith in
        rw (more_from code i r e) (step r (rows_from code (i + 1)) k (drop at s) (end - at) v ∙ rw (drop-drop, d))

module _ (code count i at : ℕ) (s : List ℕ) (inv : Left code count s i at) where
  module _ (end : ℕ) (h : i < count) (p : end ≡ place_after at (value_end 16 (drop at s))) where
    next : count - i ≡ suc (count - (i + 1))
    next = omega arith

    pub fields_stop : end ≡ 0 → false ≡ accepts (fields_by (rows_from code 0) count s)
    fields_stop z = sym (inv ∙ rw next (sym (at_malformed (rows_from code i) (count - (i + 1)) (drop at s) 6 (place_off 16 at s end p z))))

    module _ (z : end ≡ 0 → ⊥) where
      pub field_ordered : at ≤ end
      field_ordered = omega (arith, (place_in 16 at s end p z).0)

      pub field_inside : end ≤ length s
      field_inside = (place_in 16 at s end p z).1

      module _ (few : count ≤ 14) (word rows : ℕ) (w : RowsIn code word) (g : From word i rows) where
        letter : row_named (rows % 16) ≡ field_at code i
        letter = rw g (w.row i (omega arith))

        turned : accepts (fields_by (rows_from code 0) count s) ≡ suits (row_named (rows % 16)) (take (end - at) (drop at s)) && accepts (fields_by (rows_from code (i + 1)) (count - (i + 1)) (drop end s))
        turned =
            inv ∙ rw (next, letter) (step_at code i (count - (i + 1)) at end s field_ordered (place_on 16 at s end p z))

        pub fields_any : rows % 16 ≡ 0 → Left code count s (i + 1) end
        fields_any e = turned ∙ rw (e, any_suits (take (end - at) (drop at s)))

        module _ (b : Bool) (q : b ≡ suits (row_named (rows % 16)) (take (end - at) (drop at s))) where
          pub fields_unfit : b ≡ false → false ≡ accepts (fields_by (rows_from code 0) count s)
          fields_unfit t = sym (turned ∙ rw (← q, t))

          pub fields_fit : b ≡ true → Left code count s (i + 1) end
          fields_fit t = turned ∙ rw (← q, t)

  module _ (done : count ≤ i) (l : i ≤ count) (word : ℕ) (w : RowsIn code word) where
    last : accepts (fields_by (rows_from code 0) count s) ≡ eqb (length (drop at s)) 0 && leb (word / 2 ^ 56) count
    last =
        let e : i ≡ count = omega arith in
        let z : count - count ≡ 0 = omega arith in
        inv ∙ rw (e, z) (at_last (rows_from code count) (drop at s) ∙ rw (w.least count))

    pub fields_least : count < word / 2 ^ 56 → false ≡ accepts (fields_by (rows_from code 0) count s)
    fields_least h = sym (last ∙ rw (lt-leb (word / 2 ^ 56) count h) (and-false (eqb (length (drop at s)) 0)))

    pub fields_over : at ≤ length s → (at ≡ length s → ⊥) → false ≡ accepts (fields_by (rows_from code 0) count s)
    fields_over a z = sym (last ∙ rw (ne_eqb (length (drop at s)) 0 (λ q. z (omega (arith, length-drop at s)))))

    pub fields_all : word / 2 ^ 56 ≤ count → at ≡ length s → true ≡ accepts (fields_by (rows_from code 0) count s)
    fields_all h e = sym (last ∙ rw (le-leb (word / 2 ^ 56) count h, e, drop-length s))

-- ---- what `fields` says

rejected : {A : Type 0} (v : Verdict A) → false ≡ accepts v → ((k : ℕ) → v ≡ refuse k → k ≡ 6) → v ≡ refuse 6
unfolding accepts
rejected (refuse k) e h = ap refuse (h k refl)
rejected (accept a) e h = let z : ◌≡◌ {A = ℕ} 0 1 = cc in absurd (omega arith)

found : {A : Type 0} (v : Verdict A) (n : ℕ) → true ≡ accepts v → accept n ≡ and_then v (λ _. accept n)
unfolding accepts and_then
found (refuse k) n e = let z : ◌≡◌ {A = ℕ} 0 1 = cc in absurd (omega arith)
found (accept a) n e = refl

module _ (code count : ℕ) (s : List ℕ) where
  pub last_none : false ≡ accepts (fields_by (rows_from code 0) count s) → refuse 6 ≡ last_of code count s
  unfolding last_of and_then
  last_none e = rw (rejected (fields_by (rows_from code 0) count s) e (fields_six (rows_from code 0) count s))

  pub last_is : (i last : ℕ) → true ≡ accepts (fields_by (rows_from code 0) count s) → last ≡ skip (i - 1) s → count ≤ i → i ≤ count → accept last ≡ last_of code count s
  unfolding last_of
  last_is i last e p h l =
      let q : i ≡ count = omega arith in
      let k : last ≡ skip (count - 1) s = p ∙ rw q in
      ap accept k ∙ found (fields_by (rows_from code 0) count s) (skip (count - 1) s) e
