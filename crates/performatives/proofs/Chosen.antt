-- The performative that a descriptor and fields make: what each step of `performative_in` and `read` shows.
-- Assumes nothing.
use mathlib.Core.Path.{◌≡◌, refl, sym, ap, ◌∙◌, subst}
use mathlib.Core.Bool.{true, false}
use mathlib.Core.List.{List, [], ◌∷◌}
use Rattle.std.specs.Prelude.{Option, None, Some}
use Prim.Native.Nat.{ℕ, ◌+◌, ◌-◌, ◌^◌, ◌<◌, ◌≤◌}
use native.Mathlib.Omega.{arith}
use lib.ListN.{length, take, drop, get_or}
use borrow.Author.Tests.{ne_eqb}
use Rattle.octets.specs.Verdict.{Verdict, refuse, accept, and_then, accepts}
use Rattle.values.specs.Null.{null, is_null}
use Rattle.values.proofs.Apart.{accepted, then_was}
use Rattle.performatives.specs.declared.Performative as C
use Rattle.performatives.specs.Fields.{UShort, UInt, Error, Field, may, defaults, fields_in, fields_of, field_in, field_of, field_at}
use Rattle.performatives.specs.Performative.{number_of, described, split, fit, fits, fields_by, rows_for, performative_by, performative, when_not, condition_at, condition, remote_channel, Said, said, values_in, values_of, performative_said}
use Rattle.performatives.specs.Answers.{performative_says}
use Rattle.performatives.specs.Inner.{rows_in, rows_from, skip, value_at, last_of, open_says}
use Rattle.performatives.proofs.Rows.{at_few}
use Rattle.performatives.proofs.Answered.{fields_were, found_start, found_all, found_value, fit_at, uint_short, ushort_short}

abbrev pub Out : ℕ → ℕ → ℕ → ℕ → List ℕ → Verdict Said
Out code count from end s = and_then (performative_by (record { code = code; count = count; from = from; end = end }) s) (λ p. accept (said p))

-- ---- whether the fields fit

refused : {A : Type 0} (v : Verdict A) (n : ℕ) → and_then v (λ _. accept n) ≡ refuse 6 → v ≡ refuse 6
unfolding and_then
refused (refuse k) n e = let q : k ≡ 6 = cc in ap refuse q
refused (accept a) n e = let z : ◌≡◌ {A = ℕ} 0 1 = cc in absurd (omega arith)

field_in_lem : (o : Option (List Field)) (i : ℕ) (r : Field) → field_of o i ≡ Some r → field_in (rows_in o) i ≡ Some r
unfolding field_of
field_in_lem None i r e = let z : ◌≡◌ {A = ℕ} 0 1 = cc in absurd (omega arith)
field_in_lem (Some rows) i r e = e

made : (code count from end : ℕ) (s : List ℕ) (rows : List Field) (fs : List (List ℕ)) → rows_for (fields_of code) ≡ accept rows → fields_by rows count s ≡ accept fs → Out code count from end s ≡ accept (said (record { code = code; fields = fs; from = from; end = end }))
unfolding performative_by and_then
made code count from end s rows fs q f = rw (q, f)

named : (code k end from : ℕ) (fs : List (List ℕ)) (vs : List ℕ) → code ≡ k → vs ≡ values_of (record { code = k; fields = fs; from = from; end = end }) → accept (record { code = k; end = end; values = vs }) ≡ accept (said (record { code = code; fields = fs; from = from; end = end }))
named code k end from fs vs e h = rw (e, h)

module _ (s : List ℕ) (code count from end : ℕ) where
  pub unfit : refuse 6 ≡ last_of code count s → refuse 6 ≡ Out code count from end s
  unfolding performative_by rows_from rows_for and_then last_of
  unfit p = go (fields_of code) (sym p)
    where
      go : (o : Option (List Field)) → and_then (fields_by (rows_in o) count s) (λ _. accept (skip (count - 1) s)) ≡ refuse 6 → refuse 6 ≡ and_then (and_then (rows_for o) (λ rows. and_then (fields_by rows count s) (λ fs. accept (record { code = code; fields = fs; from = from; end = end })))) (λ p. accept (said p))
      go None e = refl
      go (Some rows) e = rw (refused (fields_by rows count s) (skip (count - 1) s) e)

  pub other : (code ≡ 16 → ⊥) → (code ≡ 17 → ⊥) → (code ≡ 18 → ⊥) → (code ≡ 19 → ⊥) → (code ≡ 20 → ⊥) → (code ≡ 21 → ⊥) → (code ≡ 22 → ⊥) → (code ≡ 23 → ⊥) → (code ≡ 24 → ⊥) → refuse 6 ≡ Out code count from end s
  unfolding performative_by rows_for and_then fields_of fields_in
  other a b c d e f g h i =
      rw (ne_eqb code 16 a, ne_eqb code 17 b, ne_eqb code 18 c, ne_eqb code 19 d, ne_eqb code 20 e, ne_eqb code 21 f, ne_eqb code 22 g, ne_eqb code 23 h, ne_eqb code 24 i)

  -- the fields as the definition splits them off
  module _ (last : ℕ) (p : accept last ≡ last_of code count s) where
    fielded : (fs : List (List ℕ)) × (fields_by (rows_from code 0) count s ≡ accept fs) × (accept (skip (count - 1) s) ≡ accept last)
    unfolding last_of
    fielded = then_was (fields_by (rows_from code 0) count s) _ last (sym p)

    splits : (split 16 count s ≡ accept fielded.0) × (fit (rows_from code 0) fielded.0 ≡ true)
    splits = fields_were (rows_from code 0) count s fielded.0 fielded.1

    value_at_lem : (i : ℕ) → value_at i s ≡ get_or fielded.0 i null
    value_at_lem i = found_value i count s fielded.0 splits.0

    typed : (i : ℕ) (r : Field) → field_at code i ≡ Some r → fits r.type r.mandatory (value_at i s) ≡ true
    unfolding field_at rows_from
    typed i r e = rw (value_at_lem i) (fit_at (rows_in (fields_of code)) fielded.0 i r splits.1 (field_in_lem (fields_of code) i r e))

    -- what the functions that answer ask of the fields
    pub open_given : code ≡ 16 → (length (value_at 2 s) ≤ 5) × (length (value_at 3 s) ≤ 3) × (length (value_at 4 s) ≤ 5)
    unfolding field_at field_of field_in fields_of fields_in
    open_given e = (
      uint_short false 2 s (typed 2 (defaults UInt 4294967295) (rw e)),
      ushort_short false 3 s (typed 3 (defaults UShort 65535) (rw e)),
      uint_short false 4 s (typed 4 (may UInt) (rw e)),
    )

    pub begin_given : code ≡ 17 → length (value_at 0 s) ≤ 3
    unfolding field_at field_of field_in fields_of fields_in
    begin_given e = ushort_short false 0 s (typed 0 (may UShort) (rw e))

    few : count ≤ length (rows_from code 0)
    unfolding accepts
    few = at_few (rows_from code 0) count s (ap accepts fielded.1)

    pub error_given : (k i : ℕ) → code ≡ k → field_at k i ≡ Some (may Error) → length (rows_from k 0) ≡ i + 1 → from + length s < 2 ^ 64 → (fits Error false (value_at i s) ≡ true) × (from + length s < 2 ^ 64) × (last ≡ skip (count - 1) s) × (skip count s ≡ length s) × (count ≤ i + 1)
    error_given k i e f l h =
        let n : length (rows_from code 0) ≡ i + 1 = rw e l in
        (typed i (may Error) (rw e f), h, sym (accepted _ last fielded.2), found_all count s fielded.0 splits.0, omega (arith, few))

    -- a performative with the descriptor k says what the fields say
    pub arm : (k : ℕ) (vs : List ℕ) → code ≡ k → rows_for (fields_of k) ≡ accept (rows_from k 0) → ((fs : List (List ℕ)) → split 16 count s ≡ accept fs → vs ≡ values_of (record { code = k; fields = fs; from = from; end = end })) → accept (record { code = k; end = end; values = vs }) ≡ Out code count from end s
    arm k vs e r h =
        let q : rows_for (fields_of code) ≡ accept (rows_from code 0) = subst (λ (c : ℕ). rows_for (fields_of c) ≡ accept (rows_from c 0)) (sym e) r in
        named code k end from fielded.0 vs e (h fielded.0 splits.0) ∙ sym (made code count from end s (rows_from code 0) fielded.0 q fielded.1)

-- ---- what the fields say

module _ (s : List ℕ) (count from end : ℕ) (fs : List (List ℕ)) (e : split 16 count s ≡ accept fs) where
  pub open_values : open_says (value_at 2 s) (value_at 3 s) (value_at 4 s) ≡ values_of (record { code = 16; fields = fs; from = from; end = end })
  unfolding values_of values_in
  open_values = rw (found_value 2 count s fs e, found_value 3 count s fs e, found_value 4 count s fs e)

  pub begin_values : when_not (is_null (value_at 0 s)) (number_of (value_at 0 s) ∷ []) ≡ values_of (record { code = 17; fields = fs; from = from; end = end })
  unfolding values_of values_in remote_channel
  begin_values = rw (found_value 0 count s fs e)

  pub condition_values : (k i : ℕ) → when_not (is_null (value_at i s)) (condition_at (from + skip i s) (value_at i s) (described (value_at i s))) ≡ condition i (record { code = k; fields = fs; from = from; end = end })
  unfolding condition
  condition_values k i = rw (found_value i count s fs e, found_start i count s fs e)

pub says : (v : C.Performative) (k end : ℕ) (vs : List ℕ) → performative_says v ≡ (k, vs) → ◌≡◌ {A = Verdict Said} (accept (record { code = (performative_says v).0; end = end; values = (performative_says v).1 })) (accept (record { code = k; end = end; values = vs }))
says v k end vs e = rw e

-- ---- read

module _ (s : List ℕ) where
  pub read_not : refuse 6 ≡ described s → refuse 6 ≡ performative_said s
  unfolding performative_said performative and_then
  read_not p = rw (← p)

  pub read_is : (code count from end : ℕ) (r : Verdict Said) → accept (record { code = code; count = count; from = from; end = end }) ≡ described s → r ≡ Out code count from end (take (end - from) (drop from s)) → r ≡ performative_said s
  unfolding performative_said performative and_then
  read_is code count from end r p h = rw (← p) h
