-- A field in its shortest form has its type and its meaning, and its shortest form is itself: numbers, strings, and values of any type.
-- Assumes nothing.
use mathlib.Core.Path.{◌≡◌, refl, ap}
use mathlib.Core.Bool.{Bool, true, false, ◌||◌, false≢true}
use mathlib.Core.Logic.{◌⊎◌, inl, inr}
use mathlib.Core.List.{List, [], ◌∷◌, ◌++◌}
use Prim.Native.Nat.{ℕ, suc, ◌+◌, ◌^◌, ◌<◌, ◌≤◌}
use native.Mathlib.Omega.{arith}
use lib.ListN.{length, length-append}
use lib.Dec.{leb, eqb}
use borrow.Author.Tests.{eqb-true}
use Rattle.octets.specs.Verdict.{accept}
use Rattle.octets.specs.Octets.{bytes_of, starts_with}
use Rattle.values.specs.Value.{fixed, codes, kind_in, kind_of}
use Rattle.values.specs.Null.{is_null}
use Rattle.values.proofs.Laws.{value_fixed}
use Rattle.values.proofs.Written.{Whole}
use Rattle.serializer.specs.Written.{uint, ushort, text_header, text}
use Rattle.performatives.specs.Fields.{FieldType, Any, UShort, UInt, String}
use Rattle.performatives.specs.Performative.{number_of, has_type}
use Rattle.session_frame.specs.Session.{text_of, shortest}
use Rattle.codec.specs.Meaning.{Octets, meant_as, number, text as string}
use Rattle.codec.proofs.Splits.{octets_below}
use Rattle.codec.proofs.Values.{uint_whole, uint_number, uint_typed, uint_present, ushort_whole, ushort_number, ushort_typed, ushort_present, string_whole, string_typed, string_present}

pub record Shortened (t : FieldType) (f : List ℕ) : Type 0 where
  pub whole : Whole 16 (shortest t f)
  pub present : is_null (shortest t f) ≡ false
  pub typed : has_type t (shortest t f) ≡ true
  pub same : shortest t (shortest t f) ≡ shortest t f
  pub means : meant_as t (shortest t f) ≡ meant_as t f

module _ (f : List ℕ) where
  pub any_shortest : is_null f ≡ false → Whole 16 f → Shortened Any f
  unfolding shortest has_type
  any_shortest e w = record { whole = w; present = e; typed = refl; same = refl; means = refl }

  pub ushort_shortest : number_of f < 256 ^ 2 → Shortened UShort f
  unfolding shortest meant_as
  ushort_shortest h =
      let n : number_of (ushort (number_of f)) ≡ number_of f = ushort_number (number_of f) h in
      record { whole = ushort_whole (number_of f) 15; present = ushort_present (number_of f); typed = ushort_typed (number_of f); same = ap ushort n; means = ap number n }

  pub uint_shortest : number_of f < 256 ^ 4 → Shortened UInt f
  unfolding shortest meant_as
  uint_shortest h =
      let n : number_of (uint (number_of f)) ≡ number_of f = uint_number (number_of f) h in
      record { whole = uint_whole (number_of f) 15; present = uint_present (number_of f); typed = uint_typed (number_of f); same = ap uint n; means = ap number n }

-- ---- texts

pub text_long : (code : ℕ) (t : List ℕ) → length t ≤ length (text code t)
unfolding text
text_long code t = omega (arith, length-append (text_header code (length t)) t)

-- a string or a symbol that was written
pub text_read : (code : ℕ) (t : List ℕ) → starts_with (0xa1 ∷ 0xa3 ∷ []) (code ∷ []) ≡ true → starts_with (0xa1 ∷ 0xa3 ∷ []) ((code + 16) ∷ []) ≡ false → text_of (text code t) ≡ t
unfolding text_of text text_header starts_with bytes_of
text_read code t yes-short no-long = go (leb (length t) 255) refl
  where
    go : (b : Bool) → leb (length t) 255 ≡ b → text_of (text code t) ≡ t
    go true e = rw (e, yes-short)
    go false e = rw (e, no-long)

pub string_shortest : (f : List ℕ) → length (shortest String f) < 256 ^ 4 → Shortened String f
unfolding shortest meant_as starts_with
string_shortest f h =
    let n : text_of (text 0xa1 (text_of f)) ≡ text_of f = text_read 0xa1 (text_of f) refl refl in
    record { whole = string_whole (text_of f) 15 (omega (arith, text_long 0xa1 (text_of f))); present = string_present (text_of f); typed = string_typed (text_of f); same = ap (text 0xa1) n; means = ap string n }

-- ---- numbers that were read

or_cases : (a b : Bool) → (a || b) ≡ true → (a ≡ true) ⊎ (b ≡ true)
or_cases true b e = inl refl
or_cases false b e = inr e

fixed_low : (d c w : ℕ) (s : List ℕ) → kind_of c ≡ accept (fixed w) → Whole (suc d) (c ∷ s) → Octets s → number_of (c ∷ s) < 256 ^ w
unfolding number_of
fixed_low d c w s k h o =
    let v = value_fixed d c w (s ++ []) (suc (length s)) k (h []) in
    let l : length s ≡ w = omega (arith, v.0) in
    rw l at (octets_below s o)

pub ushort_low : (d : ℕ) (f : List ℕ) → has_type UShort f ≡ true → Whole (suc d) f → Octets f → number_of f < 256 ^ 2
unfolding has_type starts_with kind_of kind_in codes
ushort_low d [] e h o = absurd (false≢true e)
ushort_low d (c ∷ s) e h o = go (or_cases (eqb c 0x60) false e)
  where
    go : (eqb c 0x60 ≡ true) ⊎ (false ≡ true) → number_of (c ∷ s) < 256 ^ 2
    go (inl x) = let q : c ≡ 0x60 = eqb-true _ _ x in fixed_low d c 2 s (rw q refl) h o.1
    go (inr x) = absurd (false≢true x)

pub uint_low : (d : ℕ) (f : List ℕ) → has_type UInt f ≡ true → Whole (suc d) f → Octets f → number_of f < 256 ^ 4
unfolding has_type starts_with kind_of kind_in codes
uint_low d [] e h o = absurd (false≢true e)
uint_low d (c ∷ s) e h o = go (or_cases (eqb c 0x70) _ e)
  where
    None : (false ≡ true) → number_of (c ∷ s) < 256 ^ 4
    None x = absurd (false≢true x)

    third : (eqb c 0x43 ≡ true) ⊎ (false ≡ true) → number_of (c ∷ s) < 256 ^ 4
    third (inl x) = let q : c ≡ 0x43 = eqb-true _ _ x in let l : number_of (c ∷ s) < 256 ^ 0 = fixed_low d c 0 s (rw q refl) h o.1 in omega arith
    third (inr x) = None x

    second : (eqb c 0x52 ≡ true) ⊎ ((eqb c 0x43 || false) ≡ true) → number_of (c ∷ s) < 256 ^ 4
    second (inl x) = let q : c ≡ 0x52 = eqb-true _ _ x in let l : number_of (c ∷ s) < 256 ^ 1 = fixed_low d c 1 s (rw q refl) h o.1 in omega arith
    second (inr x) = third (or_cases (eqb c 0x43) false x)

    go : (eqb c 0x70 ≡ true) ⊎ ((eqb c 0x52 || (eqb c 0x43 || false)) ≡ true) → number_of (c ∷ s) < 256 ^ 4
    go (inl x) = let q : c ≡ 0x70 = eqb-true _ _ x in fixed_low d c 4 s (rw q refl) h o.1
    go (inr x) = second (or_cases (eqb c 0x52) _ x)
