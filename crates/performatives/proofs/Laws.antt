-- Laws of the definitions, for the crates above: where a performative lies, with what it is refused, and which descriptors there are. Results: `performative_local` (what
-- stands after a performative is not looked at) and `condition_lies` (the condition of an error lies in its performative).
-- Assumes nothing.
use mathlib.Core.Path.{◌≡◌, refl, sym, ap, ◌∙◌, subst}
use mathlib.Core.Bool.{Bool, true, false, cond}
use mathlib.Core.List.{List, ◌++◌, [], ◌∷◌}
use Rattle.std.specs.Prelude.{Option, None, Some}
use Prim.Native.Nat.{ℕ, ◌-◌, ◌<◌, ◌≤◌, ◌+◌}
use native.Mathlib.Omega.{arith}
use lib.Dec.{leb}
use lib.ListN.{take, length, drop, get_or, length-take, length-drop}
use borrow.Author.Tests.{leb-true, leb-false}
use Rattle.octets.specs.Verdict.{refuse, accept, and_then, Verdict}
use Rattle.octets.specs.Octets.{big_endian, starts_with}
use Rattle.values.specs.Value.{value_end}
use Rattle.values.specs.Null.{null, is_null, or_null}
use Rattle.values.proofs.Apart.{accepted, then_was}
use Rattle.performatives.specs.Fields.{Field, fields_of, Error, may, field_in, field_of, field_at}
use Rattle.performatives.specs.Performative.{Described, described, items_of, fields_by, rows_for, Performative, performative_by, performative, split, is_error, has_type, fits, fit, start_of, when_not, text_at, condition_at, condition}
use Rattle.performatives.specs.Inner.{skip, item, value_at, text_from}
use Rattle.performatives.proofs.Table.{unknown}
use Rattle.performatives.proofs.Bounds.{Lies, described_lies}
use Rattle.performatives.proofs.Front.{part_front, described_front}
use Rattle.performatives.proofs.Conditions.{error_text_lem}
use Rattle.performatives.proofs.Placed.{item_lies, item_whole}
use Rattle.performatives.proofs.Numbers.{there, some_there}
use Rattle.performatives.proofs.Answered.{fields_were, found_start, found_value, fit_at}
use Rattle.performatives.proofs.Bounds as bounds

-- ---- what an accepted performative went through

pub record Made (s : List ℕ) (p : Performative) : Type 0 where
  pub list : Described
  pub rows : List Field
  pub is_list : described s ≡ accept list
  pub has_rows : fields_of p.code ≡ Some rows
  pub has_fields : fields_by rows list.count (items_of list s) ≡ accept p.fields
  pub code_is : p.code ≡ list.code
  pub from_is : p.from ≡ list.from
  pub end_is : p.end ≡ list.end

rows_were : (o : Option (List Field)) (rows : List Field) → rows_for o ≡ accept rows → o ≡ Some rows
unfolding rows_for
rows_were None rows e = let z : ◌≡◌ {A = ℕ} 0 1 = cc in absurd (omega arith)
rows_were (Some r) rows e = ap Some (accepted r rows e)

pub performative_was : (s : List ℕ) (p : Performative) → performative s ≡ accept p → Made s p
unfolding performative performative_by
performative_was s p e =
    let a = then_was (described s) _ p e in
    let b = then_was (rows_for (fields_of a.0.code)) _ p a.2 in
    let c = then_was (fields_by b.0 a.0.count (items_of a.0 s)) _ p b.2 in
    let q : record { code = a.0.code; fields = c.0; from = a.0.from; end = a.0.end } ≡ p = accepted _ p c.2 in
    rw (← q) (record { list = a.0; rows = b.0; is_list = a.1; has_rows = rows_were (fields_of a.0.code) b.0 b.1; has_fields = c.1; code_is = refl; from_is = refl; end_is = refl })

-- it lies in the bytes that it is read from
pub performative_lies : (s : List ℕ) (p : Performative) → performative s ≡ accept p → Lies s p.from p.end
performative_lies s p e =
    let m = performative_was s p e in
    let l = described_lies s m.list m.is_list in
    record { ordered = omega (arith, m.from_is, m.end_is, l.ordered); inside = omega (arith, m.end_is, l.inside) }

-- what is refused is refused with 6
pub performative_six : (s : List ℕ) (k : ℕ) → performative s ≡ refuse k → k ≡ 6
performative_six = bounds.performative_six

-- its descriptor is one of the nine
pub performative_code : (s : List ℕ) (p : Performative) → performative s ≡ accept p → (16 ≤ p.code) × (p.code ≤ 24)
performative_code s p e = go (leb 16 p.code) (leb p.code 24) refl refl
  where
    impossible : (16 ≤ p.code → p.code ≤ 24 → ⊥) → (16 ≤ p.code) × (p.code ≤ 24)
    impossible n =
        let m = performative_was s p e in
        let f : None ≡ Some m.rows = sym (unknown p.code n) ∙ m.has_rows in
        let z : ◌≡◌ {A = ℕ} 0 1 = cc in
        absurd (omega arith)

    go : (a b : Bool) → leb 16 p.code ≡ a → leb p.code 24 ≡ b → (16 ≤ p.code) × (p.code ≤ 24)
    go true true f g = (leb-true _ _ f, leb-true _ _ g)
    go true false f g = impossible (λ l m. let h : 24 < p.code = leb-false _ _ g in omega arith)
    go false b f g = impossible (λ l m. let h : p.code < 16 = leb-false _ _ f in omega arith)

-- what stands after it is not looked at
pub performative_local : (s : List ℕ) (p : Performative) → performative s ≡ accept p → (t : List ℕ) → performative (take p.end s ++ t) ≡ accept p
unfolding performative performative_by and_then
performative_local s p e t =
    let a = then_was (described s) _ p e in
    let d = a.0 in
    let m = performative_was s p e in
    let l = described_lies s d a.1 in
    let x : p.end ≡ d.end = m.end_is ∙ ap (λ (y : Described). y.end) (accepted m.list d (sym m.is_list ∙ a.1)) in
    let f = described_front d.end s t d a.1 (omega arith) l.inside in
    let i : items_of d (take d.end s ++ t) ≡ items_of d s = part_front d.end s t l.inside d.from (d.end - d.from) (omega (arith, l.ordered)) in
    subst (λ (k : ℕ). performative (take k s ++ t) ≡ accept p) (sym x) (rw (f, i) a.2)

-- ---- the condition of an error

-- the text of a symbol as one pair of numbers
text_is : (at : ℕ) (s : List ℕ) → text_at at s ≡ (at + text_from s) ∷ big_endian (take (text_from s - 1) (drop 1 s)) ∷ []
text_is at s = go (starts_with (0xa1 ∷ 0xa3 ∷ []) s)
  where
    go : (b : Bool) → cond b ((at + 2) ∷ big_endian (take 1 (drop 1 s)) ∷ []) ((at + 5) ∷ big_endian (take 4 (drop 1 s)) ∷ []) ≡ (at + cond b 2 5) ∷ big_endian (take (cond b 2 5 - 1) (drop 1 s)) ∷ []
    go true = refl
    go false = refl

-- the condition of an error f that stands at place `at`
error_lies : (at : ℕ) (f : List ℕ) (n from len : ℕ) → value_end 16 f ≡ accept n → is_error f ≡ true → condition_at at f (described f) ≡ from ∷ len ∷ [] → (at ≤ from) × (from + len ≤ at + length f)
unfolding condition_at
error_lies at f n from len v h e = go (described f) refl e
  where
    go : (d : Verdict Described) → described f ≡ d → condition_at at f d ≡ from ∷ len ∷ [] → (at ≤ from) × (from + len ≤ at + length f)
    go (refuse k) q e = let z : ◌≡◌ {A = ℕ} 0 1 = cc in absurd (omega arith)
    go (accept d) q e =
        let t = sym (text_is (at + d.from) (items_of d f)) ∙ e in
        let x : (at + d.from) + text_from (items_of d f) ≡ from = ap (λ (l : List ℕ). get_or l 0 0) t in
        let y : big_endian (take (text_from (items_of d f) - 1) (drop 1 (items_of d f))) ≡ len = ap (λ (l : List ℕ). get_or l 1 0) t in
        let w = error_text_lem f n d v q h in
        let l = described_lies f d q in
        (omega arith, omega (arith, l.ordered, l.inside, length-take (d.end - d.from) (drop d.from f), length-drop d.from f))

field_in_lem : (o : Option (List Field)) (rows : List Field) (i : ℕ) (r : Field) → o ≡ Some rows → field_of o i ≡ Some r → field_in rows i ≡ Some r
unfolding field_of
field_in_lem o rows i r q e = rw q at e

-- the i-th value of a list, as a field that is an error
module _ (s : List ℕ) (count : ℕ) (fs : List (List ℕ)) (rows : List Field) (e : fields_by rows count s ≡ accept fs) (i : ℕ) (r : field_in rows i ≡ Some (may Error)) where
  splits : (split 16 count s ≡ accept fs) × (fit rows fs ≡ true)
  splits = fields_were rows count s fs e

  error_in : (base from len : ℕ) → when_not (is_null (get_or fs i null)) (condition_at (base + start_of i fs) (get_or fs i null) (described (get_or fs i null))) ≡ from ∷ len ∷ [] → (base ≤ from) × (from + len ≤ base + length s)
  unfolding fits has_type value_at
  error_in base from len h =
      let a : get_or fs i null ≡ or_null (item i s) = sym (found_value i count s fs splits.0) in
      let b : start_of i fs ≡ skip i s = sym (found_start i count s fs splits.0) in
      go (is_null (or_null (item i s))) refl (rw a at (fit_at rows fs i (may Error) splits.1 r)) (rw (a, b) at h)
    where
      go : (c : Bool) → is_null (or_null (item i s)) ≡ c → cond c true (is_error (or_null (item i s))) ≡ true → when_not c (condition_at (base + skip i s) (or_null (item i s)) (described (or_null (item i s)))) ≡ from ∷ len ∷ [] → (base ≤ from) × (from + len ≤ base + length s)
      go true q t h = let z : ◌≡◌ {A = ℕ} 0 1 = cc in absurd (omega arith)
      go false q t h =
          let o = there (item i s) q in
          let v = item_whole i s (some_there (item i s) q) in
          let l = error_lies (base + skip i s) (item i s) _ from len v (rw o at t) (rw o at h) in
          (omega (arith, l.0), omega (arith, l.1, item_lies i s))

-- where the condition of an error begins and how long it is
pub condition_lies : (s : List ℕ) (p : Performative) → performative s ≡ accept p → (i : ℕ) → field_at p.code i ≡ Some (may Error) → (from len : ℕ) → condition i p ≡ from ∷ len ∷ [] → (p.from ≤ from) × (from + len ≤ p.end)
unfolding field_at condition
condition_lies s p e i r from len h =
    let m = performative_was s p e in
    let d = m.list in
    let l = described_lies s d m.is_list in
    let c = error_in (items_of d s) d.count p.fields m.rows m.has_fields i (field_in_lem (fields_of p.code) m.rows i (may Error) m.has_rows r) p.from from len h in
    (c.0, omega (arith, c.1, m.from_is, m.end_is, l.ordered, l.inside, length-take (d.end - d.from) (drop d.from s), length-drop d.from s))
