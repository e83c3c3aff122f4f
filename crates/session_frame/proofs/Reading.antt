-- A performative that was read: its fields are those that the writer goes through, and each has the size of its type.
-- Assumes nothing.
use mathlib.Core.Path.{◌≡◌, refl, sym, ap, ◌∙◌}
use mathlib.Core.Bool.{Bool, true, false}
use mathlib.Core.List.{List, [], ◌∷◌}
use Rattle.std.specs.Prelude.{Option, None, Some}
use Prim.Native.Nat.{ℕ, zero, suc, ◌-◌, ◌<◌, ◌≤◌}
use native.Mathlib.Omega.{arith}
use lib.ListN.{length, take, drop}
use lib.Seq.{length-take-le}
use lib.Dec.{leb, eqb}
use borrow.Author.Tests.{leb-true, leb-false, eqb-true, ne_eqb}
use Rattle.octets.specs.Verdict.{Verdict, refuse, accept, require, and_then}
use Rattle.octets.specs.Octets.{starts_with}
use Rattle.octets.proofs.Laws.{require_was, then_accept}
use Rattle.values.specs.Value.{value_end, codes, kind_in, kind_of}
use Rattle.values.specs.Null.{null, is_null, or_null}
use Rattle.values.proofs.Apart.{then_was}
use Rattle.values.proofs.Laws.{value_within, value_some}
use Rattle.serializer.specs.Written.{trimmed, composite, composite_of}
use Rattle.performatives.specs.Fields.{FieldType, Any, UShort, UInt, String, Error, Field, fields_of}
use Rattle.performatives.specs.Performative.{descriptor, Described, described, items_of, split, error_shape, is_error, has_type, fits, fit, fields_by, rows_for, Performative, performative_by, performative}
use Rattle.performatives.proofs.Bools.{and_first, and_second}
use Rattle.performatives.proofs.Codes.{narrow, width_below, narrow_ends, uint_ends, ushort_ends}
use Rattle.performatives.proofs.Table.{unknown}
use Rattle.session_frame.specs.Session.{written_field, written_fields, performative_written}
use Rattle.session_frame.specs.Parts.{first_len, first, fields_from, written_from, Sized, Checked}
use Rattle.session_frame.proofs.Split.{split_was, split_none}

-- ---- the first field

or_null_some : (f : List ℕ) → 1 ≤ length f → or_null f ≡ f
or_null_some [] h = absurd (omega arith)
or_null_some (b ∷ f) h = refl

module _ (k n : ℕ) (s : List ℕ) (e : value_end 16 s ≡ accept n) where
  pub first_len_is : first_len (suc k) s ≡ n
  unfolding first_len
  first_len_is = rw e

  pub first_is : first (suc k) s ≡ take n s
  unfolding first
  first_is =
      let l : length (take n s) ≡ n = length-take-le n s (value_within 16 s n e) in
      rw first_len_is (or_null_some (take n s) (omega (arith, value_some 16 s n e)))

-- ---- the fields as they are written

pub written_from_lem : (rows : List Field) (count : ℕ) (s : List ℕ) (fs : List (List ℕ)) → split 16 count s ≡ accept fs → written_fields rows fs ≡ written_from rows count s
unfolding written_fields written_from first first_len split
written_from_lem [] count s fs e = refl
written_from_lem (r ∷ rows) zero s fs e =
    let a = split_none 16 s fs e in
    rw (a.0, a.1) (ap (λ (l : List (List ℕ)). written_field r null ∷ l) (written_from_lem rows zero [] [] refl))
written_from_lem (r ∷ rows) (suc k) s fs e =
    let a = split_was 16 k s fs e in
    let m : suc k - 1 ≡ k = omega arith in
    rw (a.both, first_is k a.size s a.ends, first_len_is k a.size s a.ends, m)
    (ap (λ (l : List (List ℕ)). written_field r (take a.size s) ∷ l) (written_from_lem rows k (drop a.size s) a.others a.splits))

-- ---- the size of each field

null_undescribed : (f : List ℕ) (d : Described) → is_null f ≡ true → described f ≡ accept d → ⊥
unfolding described descriptor starts_with and_then require
null_undescribed [] d h e = let z : ◌≡◌ {A = ℕ} 0 1 = cc in omega arith
null_undescribed (b ∷ f) d h e = go (eqb b 0x40) refl
  where
    go : (x : Bool) → eqb b 0x40 ≡ x → ⊥
    go true q =
        let y : b ≡ 0x40 = eqb-true b 0x40 q in
        let w : eqb b 0 ≡ false = ne_eqb b 0 (λ n. omega arith) in
        let r = rw w at e in
        let z : ◌≡◌ {A = ℕ} 0 1 = cc in
        omega arith
    go false q = let r = rw q at h in let z : ◌≡◌ {A = ℕ} 0 1 = cc in omega arith

shape_counts : (f : List ℕ) (v : Verdict Described) (d : Described) → error_shape f v ≡ true → v ≡ accept d → (1 ≤ d.count) × (d.count ≤ 3)
unfolding error_shape
shape_counts f (refuse k) d h e = let z : ◌≡◌ {A = ℕ} 0 1 = cc in absurd (omega arith)
shape_counts f (accept c) d h e =
    let q : c ≡ d = cc in
    let a = and_second (eqb c.code 29) _ h in
    let b = and_second (leb 1 c.count) _ a in
    let r : (1 ≤ c.count) × (c.count ≤ 3) = (leb-true 1 c.count (and_first (leb 1 c.count) _ a), leb-true c.count 3 (and_first (leb c.count 3) _ b)) in
    rw q at r

error_counts : (f : List ℕ) → is_error f ≡ true → (d : Described) → described f ≡ accept d → (1 ≤ d.count) × (d.count ≤ 3)
unfolding is_error
error_counts f h d e = shape_counts f (described f) d h e

sized_missing : (t : FieldType) → Sized t null
unfolding Sized starts_with
sized_missing Any = tt
sized_missing UShort = omega arith
sized_missing UInt = omega arith
sized_missing String = tt
sized_missing Error = λ d e. absurd (null_undescribed null d refl e)

-- what stands at the front starts with what the whole starts with
pub starts_front : (codes s : List ℕ) (n : ℕ) → starts_with codes (take n s) ≡ true → starts_with codes s ≡ true
unfolding starts_with
starts_front codes s zero h = let z : ◌≡◌ {A = ℕ} 0 1 = cc in absurd (omega arith)
starts_front codes [] (suc n) h = h
starts_front codes (b ∷ s) (suc n) h = h

pub null_ends : (s : List ℕ) (n : ℕ) → starts_with null s ≡ true → value_end 16 s ≡ accept n → n ≤ 1
unfolding narrow width_below kind_of kind_in codes
null_ends s n = narrow_ends 16 0 null s n refl

module _ (s : List ℕ) (n : ℕ) (e : value_end 16 s ≡ accept n) where
  front_length : length (take n s) ≡ n
  front_length = length-take-le n s (value_within 16 s n e)

  sized_null : (t : FieldType) → is_null (take n s) ≡ true → Sized t (take n s)
  unfolding Sized
  sized_null Any h = tt
  sized_null UShort h = omega (arith, front_length, null_ends s n (starts_front null s n h) e)
  sized_null UInt h = omega (arith, front_length, null_ends s n (starts_front null s n h) e)
  sized_null String h = tt
  sized_null Error h = λ d q. absurd (null_undescribed (take n s) d h q)

  sized_typed : (t : FieldType) → has_type t (take n s) ≡ true → Sized t (take n s)
  unfolding Sized has_type
  sized_typed Any h = tt
  sized_typed UShort h = omega (arith, front_length, ushort_ends 16 s n (starts_front _ s n h) e)
  sized_typed UInt h = omega (arith, front_length, uint_ends 16 s n (starts_front _ s n h) e)
  sized_typed String h = tt
  sized_typed Error h = error_counts (take n s) h

  sized_fits : (t : FieldType) (m : Bool) → fits t m (take n s) ≡ true → Sized t (take n s)
  unfolding fits
  sized_fits t m h = go (is_null (take n s)) refl
    where
      go : (b : Bool) → is_null (take n s) ≡ b → Sized t (take n s)
      go true q = sized_null t q
      go false q = sized_typed t (rw q at h)

pub checked_from : (rows : List Field) (count : ℕ) (s : List ℕ) (fs : List (List ℕ)) → split 16 count s ≡ accept fs → fit rows fs ≡ true → Checked rows count s
unfolding Checked fit first first_len split
checked_from [] zero s fs e h = refl
checked_from [] (suc k) s fs e h =
    let g = rw (split_was 16 k s fs e).both at h in
    let z : ◌≡◌ {A = ℕ} 0 1 = cc in
    absurd (omega arith)
checked_from (r ∷ rows) zero s fs e h =
    let a = split_none 16 s fs e in
    let g = rw a.0 at h in
    rw a.1 (sized_missing r.type, checked_from rows zero [] [] refl (and_second (fits r.type r.mandatory null) _ g))
checked_from (r ∷ rows) (suc k) s fs e h =
    let a = split_was 16 k s fs e in
    let g = rw a.both at h in
    let m : suc k - 1 ≡ k = omega arith in
    rw (first_is k a.size s a.ends, first_len_is k a.size s a.ends, m) (
      sized_fits s a.size a.ends r.type r.mandatory (and_first (fits r.type r.mandatory (take a.size s)) _ g),
      checked_from rows k (drop a.size s) a.others a.splits (and_second (fits r.type r.mandatory (take a.size s)) _ g),
    )

-- ---- the performative

pub record Reads (body : List ℕ) (d : Described) (p : Performative) : Type 0 where
  pub rows : List Field
  pub known : fields_of d.code ≡ Some rows
  pub splits : split 16 d.count (items_of d body) ≡ accept p.fields
  pub fitting : fit rows p.fields ≡ true
  pub code : p.code ≡ d.code
  pub end : p.end ≡ d.end

rows_was : (o : Option (List Field)) (rows : List Field) → rows_for o ≡ accept rows → o ≡ Some rows
unfolding rows_for
rows_was None rows e = let z : ◌≡◌ {A = ℕ} 0 1 = cc in absurd (omega arith)
rows_was (Some r) rows e = cc

pub performative_was : (body : List ℕ) (d : Described) (p : Performative) → described body ≡ accept d → performative body ≡ accept p → Reads body d p
unfolding performative performative_by fields_by
performative_was body d p q e =
    let x : performative_by d (items_of d body) ≡ accept p = sym (then_accept (described body) _ d q) ∙ e in
    let a = then_was (rows_for (fields_of d.code)) _ p x in
    let b = then_was (fields_by a.0 d.count (items_of d body)) _ p a.2 in
    let c = then_was (split 16 d.count (items_of d body)) _ b.0 b.1 in
    let g = require_was 6 (fit a.0 c.0) _ b.0 c.2 in
    let y : c.0 ≡ b.0 = cc in
    let z : record { code = d.code; fields = b.0; from = d.from; end = d.end } ≡ p = cc in
    rw (← z) (record { rows = a.0; known = rows_was (fields_of d.code) a.0 a.1; splits = c.1 ∙ ap accept y; fitting = rw y at g.0; code = refl; end = refl })

pub code_low : (code : ℕ) (rows : List Field) → fields_of code ≡ Some rows → code < 256
code_low code rows e = go (leb code 24) refl
  where
    go : (b : Bool) → leb code 24 ≡ b → code < 256
    go true q = omega (arith, leb-true code 24 q)
    go false q =
        let h : 24 < code = leb-false code 24 q in
        let n : fields_of code ≡ None = unknown code (λ x y. omega arith) in
        let z : ◌≡◌ {A = ℕ} 0 1 = cc in
        absurd (omega arith)

module _ (body : List ℕ) (d : Described) (p : Performative) (r : Reads body d p) where
  rows_from_lem : fields_from d.code 0 ≡ r.rows
  unfolding fields_from
  rows_from_lem = rw r.known

  pub fields_checked : Checked (fields_from d.code 0) d.count (items_of d body)
  fields_checked = rw rows_from_lem (checked_from r.rows d.count (items_of d body) p.fields r.splits r.fitting)

  pub performative_is : performative_written p ≡ composite_of d.code (trimmed (written_from (fields_from d.code 0) d.count (items_of d body)))
  unfolding performative_written composite
  performative_is =
      rw (r.code, r.known, rows_from_lem) (ap (λ (l : List (List ℕ)). composite_of d.code (trimmed l)) (written_from_lem r.rows d.count (items_of d body) p.fields r.splits))
