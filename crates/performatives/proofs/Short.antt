-- A described list with a descriptor and a size of one byte: what each step of `is_short` and `described_list` shows.
-- Assumes nothing.
use mathlib.Core.Path.{◌≡◌, refl, sym, ap, ◌∙◌}
use mathlib.Core.Bool.{Bool, true, false}
use mathlib.Core.List.{List, [], ◌∷◌}
use Prim.Native.Nat.{ℕ, zero, suc, ◌+◌, ◌-◌, ◌<◌, ◌≤◌}
use native.Mathlib.Nat.{zero-add}
use native.Mathlib.Omega.{arith}
use lib.Dec.{leb, eqb}
use lib.ListN.{length, take, get_or}
use borrow.Author.Tests.{ne_eqb, le-leb, lt-leb, leb-true, eqb-true}
use Rattle.octets.specs.Verdict.{accept, require, and_then}
use Rattle.octets.specs.Octets.{big_endian, big_endian_from, starts_with}
use Rattle.values.specs.Value.{list, fixed, codes, kind_in, kind_of, plus, number_in, paired_in, opening, body, value_end}
use Rattle.values.proofs.Cases.{bytes_yes}
use Rattle.values.proofs.Apart.{number_is, opening_is}
use Rattle.values.proofs.Laws.{value_of_code}
use Rattle.performatives.specs.Performative.{number_of, sized, list_at, descriptor, described}
use Rattle.performatives.specs.Inner.{is_short}
use Rattle.performatives.proofs.Bools.{and_first, and_second}

-- ---- is_short

module _ (s : List ℕ) where
  pub short_few : length s < 6 → false ≡ is_short s
  unfolding is_short
  short_few h = rw (lt-leb 6 (length s) h)

  module _ (l : 6 ≤ length s) where
    pub short_other : (get_or s 0 0 ≡ 0 → ⊥) → false ≡ is_short s
    unfolding is_short
    short_other n = rw (le-leb 6 (length s) l, ne_eqb (get_or s 0 0) 0 n)

    module _ (z : get_or s 0 0 ≡ 0) where
      pub short_long : (get_or s 1 0 ≡ 83 → ⊥) → false ≡ is_short s
      unfolding is_short
      short_long n = rw (le-leb 6 (length s) l, z, ne_eqb (get_or s 1 0) 83 n)

      pub short_is : get_or s 1 0 ≡ 83 → eqb (get_or s 3 0) 192 ≡ is_short s
      unfolding is_short
      short_is e = rw (le-leb 6 (length s) l, z, e)

-- ---- described_list

-- the number in one byte
one : (b : ℕ) (t : List ℕ) → number_in 1 (b ∷ t) ≡ accept b
unfolding big_endian big_endian_from
one b t = number_is 1 (b ∷ t) (omega arith) ∙ ap accept (zero-add b)

module _ (c size count : ℕ) (t : List ℕ) (Some : 0 < size) (room : size ≤ suc (length t)) where
  abbrev whole : List ℕ
  whole = 0 ∷ 0x53 ∷ c ∷ 0xc0 ∷ size ∷ count ∷ t

  named : descriptor whole ≡ accept (c, 3)
  unfolding descriptor require starts_with and_then kind_of kind_in codes body plus number_of big_endian big_endian_from
  named =
      let v : value_end 1 (0x53 ∷ c ∷ 0xc0 ∷ size ∷ count ∷ t) ≡ accept 2 = value_of_code 0 0x53 (fixed 1) (c ∷ 0xc0 ∷ size ∷ count ∷ t) refl ∙ ap (plus 1) (sym (bytes_yes 1 (c ∷ 0xc0 ∷ size ∷ count ∷ t) (omega arith))) in
      rw v (ap (λ (n : ℕ). accept (n, 3)) (zero-add c))

  counted : (n : ℕ) → 0 < n → number_in 1 (take n (count ∷ t)) ≡ accept count
  counted zero h = absurd (omega arith)
  counted (suc n) h = one count (take n t)

  opened : opening list 1 (size ∷ count ∷ t) ≡ accept (size, count)
  unfolding paired_in
  opened = opening_is list 1 (size ∷ count ∷ t) size count (record { sized = one size (count ∷ t); fits = omega arith; counted = counted size Some; paired = refl })

  listed : list_at (0xc0 ∷ size ∷ count ∷ t) ≡ accept (record { count = count; from = 3; end = 2 + size })
  unfolding list_at starts_with sized and_then
  listed = rw opened

  short_whole : accept (record { code = c; count = count; from = 6; end = 5 + size }) ≡ described whole
  unfolding described and_then
  short_whole =
      let k : 5 + size ≡ 3 + (2 + size) = omega arith in
      rw (named, listed, k)

-- the same of bytes that are so
shown : (s : List ℕ) → 6 ≤ length s → get_or s 0 0 ≡ 0 → get_or s 1 0 ≡ 83 → get_or s 3 0 ≡ 192 → 0 < get_or s 4 0 → get_or s 4 0 ≤ length s - 5 → accept (record { code = get_or s 2 0; count = get_or s 5 0; from = 6; end = 5 + get_or s 4 0 }) ≡ described s
shown [] l a b d h g = absurd (omega arith)
shown (x0 ∷ []) l a b d h g = absurd (omega arith)
shown (x0 ∷ x1 ∷ []) l a b d h g = absurd (omega arith)
shown (x0 ∷ x1 ∷ x2 ∷ []) l a b d h g = absurd (omega arith)
shown (x0 ∷ x1 ∷ x2 ∷ x3 ∷ []) l a b d h g = absurd (omega arith)
shown (x0 ∷ x1 ∷ x2 ∷ x3 ∷ x4 ∷ []) l a b d h g = absurd (omega arith)
shown (x0 ∷ x1 ∷ x2 ∷ x3 ∷ x4 ∷ x5 ∷ t) l a b d h g = rw (a, b, d) (short_whole x2 x4 x5 t h (omega arith))

module _ (s : List ℕ) (b : Bool) (p : b ≡ is_short s) (t : b ≡ true) where
  is : is_short s ≡ true
  is = sym p ∙ t

  pub short_room : 6 ≤ length s
  unfolding is_short
  short_room = leb-true 6 (length s) (and_first _ _ is)

  pub short_described : (size code count : ℕ) → size ≡ get_or s 4 0 → 0 < size → size ≤ length s - 5 → code ≡ get_or s 2 0 → count ≡ get_or s 5 0 → accept (record { code = code; count = count; from = 6; end = 5 + size }) ≡ described s
  unfolding is_short
  short_described size code count e h g c n =
      let r = and_second (leb 6 (length s)) _ is in
      let q = and_second (eqb (get_or s 0 0) 0) _ r in
      rw (e, c, n)
      (shown s short_room (eqb-true _ _ (and_first (eqb (get_or s 0 0) 0) _ r)) (eqb-true _ _ (and_first (eqb (get_or s 1 0) 83) _ q)) (eqb-true _ _ (and_second (eqb (get_or s 1 0) 83) _ q)) (rw e at h) (rw e at g))
