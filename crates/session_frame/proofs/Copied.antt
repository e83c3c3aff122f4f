-- Fields that are written as they are: which performatives have only such, and what is kept of them, which is one part of the bytes that they lie in.
-- Assumes nothing.
use mathlib.Core.Path.{◌≡◌, refl, sym, ap, ◌∙◌, subst}
use mathlib.Core.Bool.{Bool, true, false, cond, ◌&&◌, or-false}
use mathlib.Core.List.{List, [], ◌∷◌, ◌++◌, append-nil}
use Rattle.std.specs.Prelude.{Option, None, Some}
use Prim.Native.Nat.{ℕ, zero, suc, ◌+◌, ◌-◌, ◌<◌, ◌≤◌}
use native.Mathlib.Omega.{arith}
use lib.ListN.{length, take, drop, get_or, length-append, take-append-drop}
use lib.Seq.{length-take-le, take-append-add, drop-drop, drop-cons}
use lib.Dec.{leb, eqb}
use borrow.Author.Tests.{leb-true, leb-false, le-leb, lt-leb, eqb-true, eq-eqb, ne_eqb}
use Rattle.octets.specs.Verdict.{Verdict, refuse, accept}
use Rattle.octets.specs.Octets.{put, starts_with}
use Rattle.octets.proofs.Tables.{up_from, same_below}
use Rattle.values.specs.Value.{value_end}
use Rattle.values.specs.Null.{null, is_null}
use Rattle.values.specs.Answers.{place_after}
use Rattle.values.proofs.Laws.{value_within}
use Rattle.values.proofs.Places.{place_off, place_on, place_in}
use Rattle.serializer.specs.Written.{joined, before, trimmed}
use Rattle.performatives.specs.Fields.{FieldType, Any, UShort, UInt, String, Error, Field, fields_in, fields_of}
use Rattle.performatives.proofs.Bools.{and_first, and_second}
use Rattle.performatives.proofs.Table.{unknown}
use Rattle.session_frame.specs.declared.field.Kept.{Kept}
use Rattle.session_frame.specs.Session.{shortest, default_of, written_as, written_field}
use Rattle.session_frame.specs.Parts.{first_len, first, rows_in, fields_from, written_from, Checked, is_any, all_any, copied, as_they_are, kept_of}
use Rattle.session_frame.proofs.Trim.{kept_pair, trimmed_first}
use Rattle.session_frame.proofs.Reading.{first_len_is, first_is, starts_front, null_ends}

-- ---- is_copied

-- Attach, Flow, Transfer, Disposition
among : ℕ → Bool
among code = leb 18 code && leb code 21

-- a test that antt computes over the codes to the last performative's; above it there is none
copied_is : (code : ℕ) → among code ≡ copied (fields_of code)
unfolding among up_from fields_of fields_in all_any
copied_is code = go (leb code 24) refl
  where
    go : (b : Bool) → leb code 24 ≡ b → among code ≡ copied (fields_of code)
    go true q = same_below among (λ k. copied (fields_of k)) 25 refl code (omega (arith, leb-true code 24 q))
    go false q =
        let h : 24 < code = leb-false code 24 q in
        rw (unknown code (λ x y. omega arith), le-leb 18 code (omega arith), lt-leb code 21 (omega arith))

pub copied_low : (code : ℕ) → code < 18 → false ≡ copied (fields_of code)
unfolding among
copied_low code h = rw (← copied_is code, lt-leb _ _ h)

pub copied_high : (code : ℕ) → 18 ≤ code → leb code 21 ≡ copied (fields_of code)
unfolding among
copied_high code h = rw (← copied_is code, le-leb _ _ h)

any_rows : (o : Option (List Field)) → copied o ≡ true → all_any (rows_in o) ≡ true
any_rows None h = let z : ◌≡◌ {A = ℕ} 0 1 = cc in absurd (omega arith)
any_rows (Some rows) h = h

-- ---- a field

null_one : (f : List ℕ) → is_null f ≡ true → length f ≤ 1 → f ≡ null
unfolding starts_with
null_one [] h l = let z : ◌≡◌ {A = ℕ} 0 1 = cc in absurd (omega arith)
null_one (b ∷ c ∷ f) h l = absurd (omega arith)
null_one (b ∷ []) h l = go (eqb b 0x40) refl
  where
    go : (x : Bool) → eqb b 0x40 ≡ x → b ∷ [] ≡ null
    go true q = ap (λ (c : ℕ). c ∷ []) (eqb-true b 0x40 q)
    go false q = let r = rw q at h in let z : ◌≡◌ {A = ℕ} 0 1 = cc in absurd (omega arith)

-- a value that begins as null does is null
first_null : (count : ℕ) (s : List ℕ) → is_null (first count s) ≡ true → first count s ≡ null
unfolding first first_len
first_null zero s h = refl
first_null (suc k) s h = go (value_end 16 s) refl h
  where
    go : (v : Verdict ℕ) → value_end 16 s ≡ v → is_null (first (suc k) s) ≡ true → first (suc k) s ≡ null
    go (refuse j) q x = rw q
    go (accept n) q x =
        let e : first (suc k) s ≡ take n s = first_is k n s q in
        let y : is_null (take n s) ≡ true = rw e at x in
        let l : length (take n s) ≡ n = length-take-le n s (value_within 16 s n q) in
        e ∙ null_one (take n s) y (omega (arith, null_ends s n (starts_front null s n y) q))

written_any : (t : FieldType) (default : Option ℕ) (f : List ℕ) → is_any t ≡ true → (is_null f ≡ true → f ≡ null) → written_as t default f ≡ f
unfolding written_as shortest
written_any Any default f h n = go (is_null f) refl default
  where
    go : (b : Bool) → is_null f ≡ b → (default : Option ℕ) → cond b (default_of Any default) f ≡ f
    go true q None = sym (n q)
    go true q (Some m) = sym (n q)
    go false q default = refl
written_any UShort default f h n = let z : ◌≡◌ {A = ℕ} 0 1 = cc in absurd (omega arith)
written_any UInt default f h n = let z : ◌≡◌ {A = ℕ} 0 1 = cc in absurd (omega arith)
written_any String default f h n = let z : ◌≡◌ {A = ℕ} 0 1 = cc in absurd (omega arith)
written_any Error default f h n = let z : ◌≡◌ {A = ℕ} 0 1 = cc in absurd (omega arith)

-- ---- all fields

-- a null before nothing
null_before : (f : List ℕ) (fs : List (List ℕ)) → f ≡ null → trimmed fs ≡ [] → trimmed (f ∷ fs) ≡ []
unfolding trimmed starts_with
null_before f fs e h = rw (e, h)

-- nothing is kept of fields that are missing
missing_none : (rows : List Field) (s : List ℕ) → all_any rows ≡ true → trimmed (written_from rows 0 s) ≡ []
unfolding all_any written_from first first_len trimmed
missing_none [] s h = refl
missing_none (r ∷ rows) s h =
    null_before (written_field r null) (written_from rows 0 s) (written_any r.type r.default null (and_first (is_any r.type) _ h) (λ x. refl)) (missing_none rows s (and_second (is_any r.type) _ h))

-- nor of those from a malformed one on
malformed_none : (j k : ℕ) (s : List ℕ) → value_end 16 s ≡ refuse j → trimmed (as_they_are k s) ≡ []
unfolding as_they_are trimmed first first_len
malformed_none j zero s e = refl
malformed_none j (suc k) s e =
    let z : first_len (suc k) s ≡ 0 = rw e in
    null_before (first (suc k) s) (as_they_are k (drop (first_len (suc k) s) s)) (rw z) (rw z (malformed_none j k s e))

written_as_is : (rows : List Field) (count : ℕ) (s : List ℕ) → all_any rows ≡ true → Checked rows count s → trimmed (written_from rows count s) ≡ trimmed (as_they_are count s)
unfolding all_any written_from as_they_are trimmed Checked
written_as_is [] count s h z = rw z
written_as_is (r ∷ rows) zero s h z = missing_none (r ∷ rows) s h
written_as_is (r ∷ rows) (suc k) s h z =
    let m : suc k - 1 ≡ k = omega arith in
    let w : written_field r (first (suc k) s) ≡ first (suc k) s = written_any r.type r.default (first (suc k) s) (and_first (is_any r.type) _ h) (first_null (suc k) s) in
    rw (w, m) (ap (before (is_null (first (suc k) s)) (first (suc k) s)) (written_as_is rows k (drop (first_len (suc k) s) s) (and_second (is_any r.type) _ h) (rw m at z.1)))

-- what is kept is the first part of the bytes
front_of : List ℕ → List ℕ → Type 0
front_of f s = f ≡ take (length f) s

front_step : (f t : List ℕ) (gs : List (List ℕ)) → front_of (joined gs) t → front_of (joined (f ∷ gs)) (f ++ t)
unfolding front_of joined
front_step f t gs h =
    ap (λ (l : List ℕ). f ++ l) h
    ∙ sym (take-append-add f t (length (joined gs)))
    ∙ ap (λ (n : ℕ). take n (f ++ t)) (sym (length-append f (joined gs)))

front_before : (b : Bool) (f t : List ℕ) (gs : List (List ℕ)) → front_of (joined gs) t → front_of (joined (before b f gs)) (f ++ t)
unfolding front_of joined
front_before true f t [] h = refl
front_before false f t [] h = front_step f t [] h
front_before true f t (g ∷ gs) h = front_step f t (g ∷ gs) h
front_before false f t (g ∷ gs) h = front_step f t (g ∷ gs) h

kept_front : (count : ℕ) (s : List ℕ) → front_of (joined (trimmed (as_they_are count s))) s
unfolding front_of as_they_are trimmed joined
kept_front zero s = refl
kept_front (suc k) s = go (value_end 16 s) refl (λ (t : List ℕ). kept_front k t)
  where
    go : (v : Verdict ℕ) → value_end 16 s ≡ v → ((t : List ℕ) → front_of (joined (trimmed (as_they_are k t))) t) → front_of (joined (trimmed (as_they_are (suc k) s))) s
    go (refuse j) q h = rw (malformed_none j (suc k) s q)
    go (accept n) q h =
        rw (first_is k n s q, first_len_is k n s q)
        (subst (front_of (joined (trimmed (take n s ∷ as_they_are k (drop n s))))) (take-append-drop n s)
        (front_before (is_null (take n s)) (take n s) (drop n s) (trimmed (as_they_are k (drop n s))) (h (drop n s))))

-- ---- trim_all, put_all

module _ (code count : ℕ) (s : List ℕ) (z : Checked (fields_from code 0) count s) (b : Bool) (e : b ≡ copied (fields_of code)) (on : b ≡ true) where
  all_any_lem : all_any (fields_from code 0) ≡ true
  unfolding fields_from
  all_any_lem = any_rows (fields_of code) (sym e ∙ on)

  as_is : trimmed (written_from (fields_from code 0) count s) ≡ trimmed (as_they_are count s)
  as_is = written_as_is (fields_from code 0) count s all_any_lem z

  pub all_kept : (k : Kept) → k ≡ kept_of (trimmed (as_they_are count s)) → k ≡ kept_of (trimmed (written_from (fields_from code 0) count s))
  all_kept k h = h ∙ ap kept_of (sym as_is)

  module _ (len : ℕ) (le : len ≡ length (joined (trimmed (written_from (fields_from code 0) count s)))) where
    part_is : joined (trimmed (written_from (fields_from code 0) count s)) ≡ take len s
    unfolding front_of
    part_is = ap joined as_is ∙ kept_front count s ∙ ap (λ (n : ℕ). take n s) (sym (le ∙ ap (λ (l : List (List ℕ)). length (joined l)) as_is))

    pub part_counts : len ≡ length (take len s)
    part_counts = le ∙ ap length part_is

    pub part_laid : (kept : ℕ) → kept ≡ length (trimmed (written_from (fields_from code 0) count s)) → (o d : List ℕ) (at : ℕ) → o ≡ put d at (take len s) → o ≡ put d at (joined (take kept (written_from (fields_from code 0) count s)))
    part_laid kept ke o d at x =
        let w : trimmed (written_from (fields_from code 0) count s) ≡ take kept (written_from (fields_from code 0) count s) =
        trimmed_first (written_from (fields_from code 0) count s) ∙ ap (λ (n : ℕ). take n (written_from (fields_from code 0) count s)) (sym ke) in
        x ∙ ap (put d at) (sym part_is ∙ ap joined w)

-- ---- kept_as_is

-- what is kept of all fields, where gs are kept of those from the place `at` on, and of the i before it n, which take len bytes
unfoldable pub kept_with : ℕ → ℕ → ℕ → ℕ → List (List ℕ) → Kept
kept_with i at n len [] = record { count = n; len = len }
kept_with i at n len (g ∷ gs) = record { count = i + length (g ∷ gs); len = at + length (joined (g ∷ gs)) }

with_before : (b : Bool) (i at n len : ℕ) (f : List ℕ) (gs : List (List ℕ)) → kept_with i at n len (before b f gs) ≡ kept_with (i + 1) (at + length f) (cond b n (i + 1)) (cond b len (at + length f)) gs
unfolding kept_with joined
with_before true i at n len f [] = refl
with_before false i at n len f [] = kept_pair _ _ _ _ (omega arith) (omega (arith, ap length (append-nil f)))
with_before true i at n len f (g ∷ gs) = kept_pair _ _ _ _ (omega arith) (omega (arith, length-append f (g ++ joined gs)))
with_before false i at n len f (g ∷ gs) = kept_pair _ _ _ _ (omega arith) (omega (arith, length-append f (g ++ joined gs)))

pub kept_start : (count : ℕ) (s : List ℕ) → kept_of (trimmed (as_they_are count s)) ≡ kept_with 0 0 0 0 (trimmed (as_they_are (count - 0) (drop 0 s)))
unfolding kept_of kept_with joined
kept_start count s = let z : count - 0 ≡ count = omega arith in rw z (go (trimmed (as_they_are count s)))
  where
    go : (gs : List (List ℕ)) → kept_of gs ≡ kept_with 0 0 0 0 gs
    go [] = refl
    go (g ∷ gs) = kept_pair _ _ _ _ (omega arith) (omega arith)

first_byte : (b n : ℕ) (t : List ℕ) → 1 ≤ n → is_null (take n (b ∷ t)) ≡ eqb b 0x40
unfolding starts_with
first_byte b zero t h = absurd (omega arith)
first_byte b (suc n) t h = or-false (eqb b 0x40)

module _ (count : ℕ) (s : List ℕ) (at i n len : ℕ) (inv : kept_of (trimmed (as_they_are count s)) ≡ kept_with i at n len (trimmed (as_they_are (count - i) (drop at s)))) where
  -- nothing is kept of what is left
  none_left : trimmed (as_they_are (count - i) (drop at s)) ≡ [] → ◌≡◌ {A = Kept} (record { count = n; len = len }) (kept_of (trimmed (as_they_are count s)))
  unfolding kept_with
  none_left e = sym (inv ∙ ap (kept_with i at n len) e)

  pub kept_all : count ≤ i → ◌≡◌ {A = Kept} (record { count = n; len = len }) (kept_of (trimmed (as_they_are count s)))
  unfolding as_they_are trimmed
  kept_all h = let z : count - i ≡ 0 = omega arith in none_left (rw z)

  module _ (more : i < count) (end : ℕ) (p : end ≡ place_after at (value_end 16 (drop at s))) where
    pub kept_malformed : end ≡ 0 → ◌≡◌ {A = Kept} (record { count = n; len = len }) (kept_of (trimmed (as_they_are count s)))
    kept_malformed e = none_left (malformed_none 6 (count - i) (drop at s) (place_off 16 at s end p e))

    module _ (on : end ≡ 0 → ⊥) where
      pub byte_in : at < length s
      byte_in = let b = place_in 16 at s end p on in omega (arith, b.0, b.1)

      abbrev field : List ℕ
      field = take (end - at) (drop at s)

      abbrev others : List (List ℕ)
      others = trimmed (as_they_are (count - (i + 1)) (drop end s))

      field_ends : at + length field ≡ end
      field_ends =
          let b = place_in 16 at s end p on in
          let l : length field ≡ end - at = length-take-le (end - at) (drop at s) (value_within 16 (drop at s) (end - at) (place_on 16 at s end p on)) in
          omega (arith, b.0)

      left_is : trimmed (as_they_are (count - i) (drop at s)) ≡ before (is_null field) field others
      unfolding as_they_are trimmed
      left_is =
          let b = place_in 16 at s end p on in
          let c : count - i ≡ suc (count - (i + 1)) = omega arith in
          let v = place_on 16 at s end p on in
          let e : at + (end - at) ≡ end = omega (arith, b.0) in
          let d : drop (end - at) (drop at s) ≡ drop end s = drop-drop (end - at) at s ∙ ap (λ (k : ℕ). drop k s) e in
          rw (c, first_is (count - (i + 1)) (end - at) (drop at s) v, first_len_is (count - (i + 1)) (end - at) (drop at s) v, d)

      field_null : is_null field ≡ eqb (get_or s at 0) 0x40
      field_null =
          let b = place_in 16 at s end p on in
          rw (drop-cons s at 0 byte_in) (first_byte (get_or s at 0) (end - at) (drop (suc at) s) (omega (arith, b.0)))

      kept_by : (b : Bool) → eqb (get_or s at 0) 0x40 ≡ b → kept_of (trimmed (as_they_are count s)) ≡ kept_with (i + 1) end (cond b n (i + 1)) (cond b len end) others
      kept_by b e =
          inv
          ∙ ap (kept_with i at n len) (left_is ∙ ap (λ (x : Bool). before x field others) (field_null ∙ e))
          ∙ with_before b i at n len field others
          ∙ rw field_ends

      pub kept_null : get_or s at 0 ≡ 0x40 → (m l : ℕ) → m ≡ n → l ≡ len → kept_of (trimmed (as_they_are count s)) ≡ kept_with (i + 1) end m l others
      kept_null e m l me le = kept_by true (eq-eqb _ _ e) ∙ rw (me, le)

      pub kept_some : (get_or s at 0 ≡ 0x40 → ⊥) → (m l : ℕ) → m ≡ i + 1 → l ≡ end → kept_of (trimmed (as_they_are count s)) ≡ kept_with (i + 1) end m l others
      kept_some e m l me le = kept_by false (ne_eqb _ _ e) ∙ rw (me, le)
