-- Each written value is one whole value, whatever stands after it, has its type, and says its number.
-- Assumes nothing.
use mathlib.Core.Path.{◌≡◌, refl, sym, ap}
use mathlib.Core.Bool.{Bool, true, false}
use mathlib.Core.List.{List, [], ◌∷◌, ◌++◌, flatten}
use Prim.Native.Nat.{ℕ, suc, ◌+◌, ◌^◌, ◌<◌, ◌≤◌}
use native.Mathlib.Omega.{arith}
use lib.ListN.{length}
use lib.Dec.{leb, eqb}
use borrow.Author.Tests.{le-leb, leb-true, eqb-true}
use Rattle.octets.specs.Verdict.{accept}
use Rattle.octets.specs.Octets.{big_endian, big_endian_from, bytes_of, starts_with}
use Rattle.octets.proofs.Laws.{length_bytes_of}
use Rattle.values.specs.Value.{codes, kind_in, kind_of, variable}
use Rattle.values.specs.Null.{null, is_null}
use Rattle.values.proofs.Written.{Whole, Each, bytes_number, fixed_whole, variable_whole, list_whole, list_none, described_whole, compound_bytes}
use Rattle.serializer.specs.Written.{uint, ushort, text_header, text, list_header, joined, composite_header, composite_of}
use Rattle.serializer.proofs.Laws.{one_byte}
use Rattle.performatives.specs.Fields.{FieldType, UShort, UInt, String, Error}
use Rattle.performatives.specs.Performative.{number_of, has_type, fits, is_error, error_shape, Performative, field, start_of, text_at, condition_at, condition}
use Rattle.codec.proofs.Trimmed.{none_is}
use Rattle.codec.proofs.Composite.{described_alone, items_alone}

-- what is not null fits by its type
pub fits_present : (t : FieldType) (mandatory : Bool) (f : List ℕ) → is_null f ≡ false → has_type t f ≡ true → fits t mandatory f ≡ true
unfolding fits
fits_present t mandatory f p q = rw p q

-- ---- null

pub null_whole : (d : ℕ) → Whole (suc d) null
unfolding kind_of kind_in codes
null_whole d = fixed_whole d 0x40 0 [] refl refl

-- ---- uint

record Uint (n : ℕ) : Type 0 where
  whole : (d : ℕ) → Whole (suc d) (uint n)
  number : n < 256 ^ 4 → number_of (uint n) ≡ n
  typed : has_type UInt (uint n) ≡ true
  present : is_null (uint n) ≡ false
  short : length (uint n) ≤ 5

uint_cases : (n : ℕ) (a b : Bool) → eqb n 0 ≡ a → leb n 255 ≡ b → Uint n
unfolding uint number_of big_endian big_endian_from has_type starts_with kind_of kind_in codes
uint_cases n true b p q =
    let z : n ≡ 0 = eqb-true _ _ p in
    rw z (record { whole = λ d. fixed_whole d 0x43 0 [] refl refl; number = λ _. refl; typed = refl; present = refl; short = omega arith })
uint_cases n false true p q =
    record { whole = λ d. rw (p, q) (fixed_whole d 0x52 1 (n ∷ []) refl refl); number = λ _. rw (p, q) (omega arith); typed = rw (p, q); present = rw (p, q); short = rw (p, q) (omega arith) }
uint_cases n false false p q =
    record { whole = λ d. rw (p, q) (fixed_whole d 0x70 4 (bytes_of 4 n) refl (length_bytes_of 4 n)); number = λ h. rw (p, q) (bytes_number 4 n h); typed = rw (p, q); present = rw (p, q); short = rw (p, q) (omega (arith, length_bytes_of 4 n)) }

module _ (n : ℕ) where
  uint_all : Uint n
  uint_all = uint_cases n (eqb n 0) (leb n 255) refl refl

  pub uint_whole : (d : ℕ) → Whole (suc d) (uint n)
  uint_whole = uint_all.whole

  pub uint_number : n < 256 ^ 4 → number_of (uint n) ≡ n
  uint_number = uint_all.number

  pub uint_typed : has_type UInt (uint n) ≡ true
  uint_typed = uint_all.typed

  pub uint_present : is_null (uint n) ≡ false
  uint_present = uint_all.present

  pub uint_short : length (uint n) ≤ 5
  uint_short = uint_all.short

-- ---- ushort

module _ (n : ℕ) where
  pub ushort_whole : (d : ℕ) → Whole (suc d) (ushort n)
  unfolding ushort kind_of kind_in codes
  ushort_whole d = fixed_whole d 0x60 2 (bytes_of 2 n) refl (length_bytes_of 2 n)

  pub ushort_number : n < 256 ^ 2 → number_of (ushort n) ≡ n
  unfolding ushort number_of
  ushort_number h = bytes_number 2 n h

  pub ushort_typed : has_type UShort (ushort n) ≡ true
  unfolding ushort has_type starts_with
  ushort_typed = refl

  pub ushort_present : is_null (ushort n) ≡ false
  unfolding ushort starts_with
  ushort_present = refl

-- ---- strings and symbols

text_cases : (d code : ℕ) (bs : List ℕ) (b : Bool) → leb (length bs) 255 ≡ b → kind_of code ≡ accept (variable 1) → kind_of (code + 16) ≡ accept (variable 4) → length bs < 256 ^ 4 → Whole (suc d) (text code bs)
unfolding text text_header
text_cases d code bs true e k m h =
    let l : length bs ≤ 255 = leb-true _ _ e in
    rw e (rw (one_byte (length bs) (omega arith)) at (variable_whole d code 1 bs k (omega arith)))
text_cases d code bs false e k m h = rw e (variable_whole d (code + 16) 4 bs m h)

module _ (bs : List ℕ) where
  pub string_whole : (d : ℕ) → length bs < 256 ^ 4 → Whole (suc d) (text 0xa1 bs)
  unfolding kind_of kind_in codes
  string_whole d h = text_cases d 0xa1 bs (leb (length bs) 255) refl refl refl h

  pub symbol_whole : (d : ℕ) → length bs < 256 ^ 4 → Whole (suc d) (text 0xa3 bs)
  unfolding kind_of kind_in codes
  symbol_whole d h = text_cases d 0xa3 bs (leb (length bs) 255) refl refl refl h

  string_is : (b : Bool) → leb (length bs) 255 ≡ b → (has_type String (text 0xa1 bs) ≡ true) × (is_null (text 0xa1 bs) ≡ false)
  unfolding has_type text text_header starts_with
  string_is true e = (rw e, rw e)
  string_is false e = (rw e, rw e)

  symbol_is : (s : List ℕ) (b : Bool) → leb (length bs) 255 ≡ b → (starts_with (0xa3 ∷ 0xb3 ∷ []) (text 0xa3 bs ++ s) ≡ true) × (is_null (text 0xa3 bs) ≡ false)
  unfolding text text_header starts_with
  symbol_is s true e = (rw e, rw e)
  symbol_is s false e = (rw e, rw e)

  pub string_typed : has_type String (text 0xa1 bs) ≡ true
  string_typed = (string_is (leb (length bs) 255) refl).0

  pub string_present : is_null (text 0xa1 bs) ≡ false
  string_present = (string_is (leb (length bs) 255) refl).1

  pub symbol_first : (s : List ℕ) → starts_with (0xa3 ∷ 0xb3 ∷ []) (text 0xa3 bs ++ s) ≡ true
  symbol_first s = (symbol_is s (leb (length bs) 255) refl).0

  pub symbol_present : is_null (text 0xa3 bs) ≡ false
  symbol_present = (symbol_is [] (leb (length bs) 255) refl).1

-- ---- described lists

joined_flatten : (fs : List (List ℕ)) → joined fs ≡ flatten fs
unfolding joined flatten
joined_flatten [] = refl
joined_flatten (f ∷ fs) = ap (λ (s : List ℕ). f ++ s) (joined_flatten fs)

module _ (d : ℕ) (fs : List (List ℕ)) (each : Each (Whole d) fs) (few : length fs < 256) (low : length (joined fs) + 4 < 256 ^ 4) where
  list_cases : (a b : Bool) → eqb (length fs) 0 ≡ a → leb (length (joined fs)) 254 ≡ b → Whole (suc d) (list_header (length fs) (length (joined fs)) ++ joined fs)
  unfolding list_header joined kind_of kind_in codes
  list_cases true b p q =
      let z : fs ≡ [] = none_is fs (eqb-true _ _ p) in
      rw z (list_none d)
  list_cases false true p q =
      let l : length (joined fs) ≤ 254 = leb-true _ _ q in
      let f : flatten fs ≡ joined fs = sym (joined_flatten fs) in
      let w : Whole (suc d) (0xc0 ∷ compound_bytes 1 (length fs) (joined fs)) = rw f at (list_whole d 0xc0 1 fs refl each (rw f (omega arith)) (omega arith)) in
      let k : 1 + length (joined fs) ≡ length (joined fs) + 1 = omega arith in
      rw (p, q) (rw (k, one_byte (length (joined fs) + 1) (omega arith), one_byte (length fs) few) at w)
  list_cases false false p q =
      let f : flatten fs ≡ joined fs = sym (joined_flatten fs) in
      let k : 4 + length (joined fs) ≡ length (joined fs) + 4 = omega arith in
      let w : Whole (suc d) (0xd0 ∷ compound_bytes 4 (length fs) (joined fs)) = rw f at (list_whole d 0xd0 4 fs refl each (rw f (omega arith)) (omega arith)) in
      rw (p, q) (rw k at w)

  -- the values stand two levels deeper
  pub composite_whole : (code : ℕ) → Whole (suc (suc d)) (composite_of code fs)
  unfolding composite_header kind_of kind_in codes
  composite_whole code =
      described_whole (suc d) (0x53 ∷ code ∷ []) (list_header (length fs) (length (joined fs)) ++ joined fs) (fixed_whole d 0x53 1 (code ∷ []) refl refl)
      (list_cases (eqb (length fs) 0) (leb (length (joined fs)) 254) refl refl)

pub composite_present : (code : ℕ) (fs : List (List ℕ)) → is_null (composite_of code fs) ≡ false
unfolding composite_header starts_with
composite_present code fs = refl

-- ---- errors

-- one to three values, of which the first is a symbol
pub error_typed : (fs : List (List ℕ)) → 1 ≤ length fs → length fs ≤ 3 → length (joined fs) + 4 < 256 ^ 4 → starts_with (0xa3 ∷ 0xb3 ∷ []) (joined fs) ≡ true → has_type Error (composite_of 29 fs) ≡ true
unfolding has_type is_error error_shape
error_typed fs Some few low e =
    let f : length fs < 256 = omega arith in
    rw (described_alone 29 fs f low, items_alone 29 fs f low, le-leb 1 (length fs) Some, le-leb (length fs) 3 few) e

-- where its condition stands
pub condition_read : (i : ℕ) (p : Performative) (fs : List (List ℕ)) → field i p ≡ composite_of 29 fs → length fs < 256 → length (joined fs) + 4 < 256 ^ 4
    → condition i p ≡ text_at (p.from + start_of i p.fields + length (composite_header 29 (length fs) (length (joined fs)))) (joined fs)
unfolding condition condition_at
condition_read i p fs e few low =
    rw e (rw (composite_present 29 fs, described_alone 29 fs few low, items_alone 29 fs few low) refl)
