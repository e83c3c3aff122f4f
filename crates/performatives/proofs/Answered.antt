-- The answer by the fields: those that are found are those that the definition splits off, and each has its row's type.
-- Assumes nothing.
use mathlib.Core.Path.{◌≡◌, refl, sym, ap, ◌∙◌, subst}
use mathlib.Core.Bool.{Bool, true, false, cond, not}
use mathlib.Core.List.{List, [], ◌∷◌}
use Rattle.std.specs.Prelude.{Some}
use Prim.Native.Nat.{ℕ, zero, suc, ◌+◌, ◌-◌, ◌≤◌}
use native.Mathlib.Omega.{arith}
use lib.ListN.{length, take, drop, get_or, length-drop}
use lib.Seq.{drop-nil, take-nil, length-take-le}
use Rattle.octets.specs.Verdict.{refuse, accept}
use Rattle.octets.specs.Octets.{starts_with}
use Rattle.octets.proofs.Laws.{require_was}
use Rattle.values.specs.Value.{codes, kind_in, kind_of, level, run, value_end}
use Rattle.values.specs.Null.{null, is_null, or_null}
use Rattle.values.proofs.Apart.{accepted, then_was}
use Rattle.values.proofs.Laws.{value_within, value_some}
use Rattle.performatives.specs.Fields.{UShort, UInt, Field, field_in}
use Rattle.performatives.specs.Performative.{has_type, fits, fit, split, fields_by, start_of}
use Rattle.performatives.specs.Inner.{next, skip, item, value_at}
use Rattle.performatives.proofs.Bools.{and_first, and_second}
use Rattle.performatives.proofs.Codes.{narrow, width_below, narrow_ends}
use Rattle.performatives.proofs.Found.{skip_front, item_front}
use Rattle.performatives.proofs.Placed.{item_whole}

-- fields that fit are split off
pub fields_were : (rows : List Field) (count : ℕ) (s : List ℕ) (fs : List (List ℕ)) → fields_by rows count s ≡ accept fs → (split 16 count s ≡ accept fs) × (fit rows fs ≡ true)
unfolding fields_by
fields_were rows count s fs e =
    let v = then_was (split 16 count s) _ fs e in
    let w = require_was 6 (fit rows v.0) _ fs v.2 in
    let q : v.0 ≡ fs = accepted v.0 fs w.1 in
    (v.1 ∙ ap accept q, ap (fit rows) (sym q) ∙ w.0)

-- ---- one value split off

-- what a split of a value and k more went through
record Split (k : ℕ) (s : List ℕ) (fs : List (List ℕ)) : Type 0 where
  size : ℕ
  rest : List (List ℕ)
  ends : value_end 16 s ≡ accept size
  others : split 16 k (drop size s) ≡ accept rest
  whole : fs ≡ take size s ∷ rest

split_was : (k : ℕ) (s : List ℕ) (fs : List (List ℕ)) → split 16 (suc k) s ≡ accept fs → Split k s fs
unfolding split
split_was k s fs e =
    let a = then_was (value_end 16 s) _ fs e in
    let b = then_was (split 16 k (drop a.0 s)) _ fs a.2 in
    record { size = a.0; rest = b.0; ends = a.1; others = b.1; whole = sym (accepted _ fs b.2) }

split_none : (s : List ℕ) (fs : List (List ℕ)) → split 16 0 s ≡ accept fs → (s ≡ []) × (fs ≡ [])
unfolding split
split_none [] fs e = (refl, sym (accepted _ fs e))
split_none (b ∷ s) fs e = let z : ◌≡◌ {A = ℕ} 0 1 = cc in absurd (omega arith)

nothing : value_end 16 [] ≡ refuse 6
unfolding value_end run level
nothing = refl

-- ---- where they are found

start_next : (i : ℕ) (s : List ℕ) (n : ℕ) (fs rest : List (List ℕ)) → value_end 16 s ≡ accept n → fs ≡ take n s ∷ rest → skip i (drop n s) ≡ start_of i rest → skip (suc i) s ≡ start_of (suc i) fs
unfolding start_of
start_next i s n fs rest e w h =
    let l = length-take-le n s (value_within 16 s n e) in
    skip_front i s n e ∙ rw (w, l) (ap (λ (x : ℕ). n + x) h)

skip_nothing : (i : ℕ) → skip i [] ≡ 0
unfolding skip next
skip_nothing zero = refl
skip_nothing (suc i) = rw (skip_nothing i, nothing)

start_none : (i : ℕ) (s : List ℕ) (fs : List (List ℕ)) → s ≡ [] → fs ≡ [] → skip i s ≡ start_of i fs
unfolding start_of
start_none zero s fs p q = rw p (skip_nothing 0)
start_none (suc i) s fs p q = rw (p, q) (skip_nothing (suc i))

start_zero : (s : List ℕ) (fs : List (List ℕ)) → skip 0 s ≡ start_of 0 fs
unfolding skip start_of
start_zero s fs = refl

pub found_start : (i k : ℕ) (s : List ℕ) (fs : List (List ℕ)) → split 16 k s ≡ accept fs → skip i s ≡ start_of i fs
found_start i zero s fs e = let n = split_none s fs e in start_none i s fs n.0 n.1
found_start zero (suc k) s fs e = start_zero s fs
found_start (suc i) (suc k) s fs e =
    let p = split_was k s fs e in
    start_next i s p.size fs p.rest p.ends p.whole (found_start i k (drop p.size s) p.rest p.others)

-- they fill s
all_next : (k : ℕ) (s : List ℕ) (n : ℕ) → value_end 16 s ≡ accept n → skip k (drop n s) ≡ length (drop n s) → skip (suc k) s ≡ length s
all_next k s n e h = skip_front k s n e ∙ rw h (omega (arith, value_within 16 s n e, length-drop n s))

pub found_all : (k : ℕ) (s : List ℕ) (fs : List (List ℕ)) → split 16 k s ≡ accept fs → skip k s ≡ length s
found_all zero s fs e = rw (split_none s fs e).0 (skip_nothing 0)
found_all (suc k) s fs e =
    let p = split_was k s fs e in all_next k s p.size p.ends (found_all k (drop p.size s) p.rest p.others)

value_next : (i : ℕ) (s : List ℕ) (n : ℕ) (fs rest : List (List ℕ)) → value_end 16 s ≡ accept n → fs ≡ take n s ∷ rest → value_at i (drop n s) ≡ get_or rest i null → value_at (suc i) s ≡ get_or fs (suc i) null
unfolding value_at
value_next i s n fs rest e w h = rw (item_front i s n e, w) h

value_none : (i : ℕ) (s : List ℕ) (fs : List (List ℕ)) → s ≡ [] → fs ≡ [] → value_at i s ≡ get_or fs i null
unfolding value_at item
value_none i s fs p q = rw (p, q, drop-nil, take-nil)

there : (f : List ℕ) → 1 ≤ length f → or_null f ≡ f
there [] h = absurd (omega arith)
there (x ∷ f) h = refl

value_first : (s : List ℕ) (n : ℕ) (fs rest : List (List ℕ)) → value_end 16 s ≡ accept n → fs ≡ take n s ∷ rest → value_at 0 s ≡ get_or fs 0 null
unfolding value_at item skip next
value_first s n fs rest e w =
    let l = length-take-le n s (value_within 16 s n e) in
    let m = value_some 16 s n e in
    let k : (0 + n) - 0 ≡ n = omega arith in
    rw (e, w, k) (there (take n s) (omega arith))

pub found_value : (i k : ℕ) (s : List ℕ) (fs : List (List ℕ)) → split 16 k s ≡ accept fs → value_at i s ≡ get_or fs i null
found_value i zero s fs e = let n = split_none s fs e in value_none i s fs n.0 n.1
found_value zero (suc k) s fs e = let p = split_was k s fs e in value_first s p.size fs p.rest p.ends p.whole
found_value (suc i) (suc k) s fs e =
    let p = split_was k s fs e in
    value_next i s p.size fs p.rest p.ends p.whole (found_value i k (drop p.size s) p.rest p.others)

-- ---- a field has the type of its row

pub fit_at : (rows : List Field) (fs : List (List ℕ)) (i : ℕ) (r : Field) → fit rows fs ≡ true → field_in rows i ≡ Some r → fits r.type r.mandatory (get_or fs i null) ≡ true
unfolding fit field_in
fit_at [] fs i r h e = let z : ◌≡◌ {A = ℕ} 0 1 = cc in absurd (omega arith)
fit_at (x ∷ rows) [] zero r h e =
    let q : x ≡ r = cc in
    subst (λ (y : Field). fits y.type y.mandatory null ≡ true) q (and_first (fits x.type x.mandatory null) _ h)
fit_at (x ∷ rows) [] (suc i) r h e = fit_at rows [] i r (and_second (fits x.type x.mandatory null) _ h) e
fit_at (x ∷ rows) (f ∷ fs) zero r h e =
    let q : x ≡ r = cc in
    subst (λ (y : Field). fits y.type y.mandatory f ≡ true) q (and_first (fits x.type x.mandatory f) _ h)
fit_at (x ∷ rows) (f ∷ fs) (suc i) r h e = fit_at rows fs i r (and_second (fits x.type x.mandatory f) _ h) e

-- a value with one of these codes is as short as they are
short_item : (w : ℕ) (codes f : List ℕ) (mandatory : Bool) → narrow w codes ≡ true → 1 ≤ length f → value_end 16 f ≡ accept (length f) → cond (is_null f) (not mandatory) (starts_with codes f) ≡ true → length f ≤ 1 + w
unfolding narrow width_below kind_of kind_in codes
short_item w cs f mandatory n l e h = go (is_null f) refl h
  where
    go : (b : Bool) → is_null f ≡ b → cond b (not mandatory) (starts_with cs f) ≡ true → length f ≤ 1 + w
    go true q g = let k : length f ≤ 1 = narrow_ends 16 0 null f (length f) refl q e in omega arith
    go false q g = narrow_ends 16 w cs f (length f) n g e

short_value : (w : ℕ) (codes : List ℕ) (mandatory : Bool) → narrow w codes ≡ true → (i : ℕ) (s : List ℕ) → cond (is_null (value_at i s)) (not mandatory) (starts_with codes (value_at i s)) ≡ true → length (value_at i s) ≤ 1 + w
unfolding value_at
short_value w cs mandatory n i s = go (item i s) (item_whole i s)
  where
    go : (f : List ℕ) → (1 ≤ length f → value_end 16 f ≡ accept (length f)) → cond (is_null (or_null f)) (not mandatory) (starts_with cs (or_null f)) ≡ true → length (or_null f) ≤ 1 + w
    go [] e h = omega arith
    go (x ∷ f) e h = short_item w cs (x ∷ f) mandatory n (omega arith) (e (omega arith)) h

pub uint_short : (mandatory : Bool) (i : ℕ) (s : List ℕ) → fits UInt mandatory (value_at i s) ≡ true → length (value_at i s) ≤ 5
unfolding fits has_type narrow width_below kind_of kind_in codes
uint_short mandatory i s h = short_value 4 (0x70 ∷ 0x52 ∷ 0x43 ∷ []) mandatory refl i s h

pub ushort_short : (mandatory : Bool) (i : ℕ) (s : List ℕ) → fits UShort mandatory (value_at i s) ≡ true → length (value_at i s) ≤ 3
unfolding fits has_type narrow width_below kind_of kind_in codes
ushort_short mandatory i s h = short_value 2 (0x60 ∷ []) mandatory refl i s h
