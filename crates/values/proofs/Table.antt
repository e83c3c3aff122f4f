-- The code's words say of each code what the list of section 1.6 says, and its line gives the width of the upper half: tests that antt computes
-- over all 256 codes.
-- Assumes nothing.
use mathlib.Core.Path.{◌≡◌, refl, sym, ap, ◌∙◌, subst}
use mathlib.Core.Bool.{Bool}
use mathlib.Core.List.{List, [], ◌∷◌}
use Prim.Native.Nat.{ℕ, ◌+◌, ◌*◌, ◌/◌, ◌%◌, ◌^◌, ◌<◌}
use native.Mathlib.Omega.{arith}
use lib.Dec.{eqb}
use lib.ListN.{get_or}
use borrow.Author.Tests.{ne_eqb}
use Rattle.octets.specs.Verdict.{Verdict, refuse, accepts}
use Rattle.octets.proofs.Tables.{up_from, same_below}
use Rattle.values.specs.Value.{list, map, array, Kind, fixed, boolean, variable, compound, codes, kind_in, kind_of}
use Rattle.values.specs.Widths.{fixed_width}
use Rattle.values.specs.Plain.{is_known, is_plain, BitsOf}

-- the line
pub line_right : (c : ℕ) → c < 256 → 1 * 2 ^ (c / 16) % 2 ^ 32 / 32 ≡ fixed_width c
unfolding up_from fixed_width
line_right c h = same_below (λ c. 1 * 2 ^ (c / 16) % 2 ^ 32 / 32) fixed_width 256 refl c h

pub line_low : (x : ℕ) → x % 2 ^ 32 / 32 < 2 ^ 27
line_low x = omega arith

-- a word for each upper half, with four bits for each code
abbrev kinds : List ℕ
kinds =
    0 ∷ 0 ∷ 0 ∷ 0
    ∷ 0x111111 ∷ 0x2111111 ∷ 0x11 ∷ 0x11111 ∷ 0x11111 ∷ 0x100010000
    ∷ 0x3033 ∷ 0x4044 ∷ 0x75 ∷ 0x86 ∷ 0x9 ∷ 0xa
    ∷ []

abbrev bits_of : ℕ → ℕ
bits_of c = get_or kinds (c / 16) 0 / 2 ^ (c % 16 * 4) % 16

-- the kind that the bits n stand for, at the code c
unfoldable pub kind_named : ℕ → ℕ → Verdict Kind
kind_named c n =
    kind_in
    ((1, fixed (fixed_width c)) ∷ (2, boolean) ∷ (3, variable 1) ∷ (4, variable 4)
    ∷ (5, compound list 1) ∷ (6, compound list 4) ∷ (7, compound map 1) ∷ (8, compound map 4) ∷ (9, compound array 1) ∷ (10, compound array 4) ∷ [])
    n

table_right : (c : ℕ) → c < 256 → kind_named c (bits_of c) ≡ kind_of c
unfolding up_from codes kind_in kind_of kind_named fixed_width
table_right c h = same_below (λ c. kind_named c (bits_of c)) kind_of 256 refl c h

-- a code with the bits n
pub entry : (c n : ℕ) (v : Verdict Kind) → c < 256 → bits_of c ≡ n → v ≡ kind_named c n → v ≡ kind_of c
entry c n v h e q = q ∙ ap (kind_named c) (sym e) ∙ table_right c h

-- the last arm of the match
pub named_else : (c n : ℕ) → (n ≡ 1 → ⊥) → (n ≡ 2 → ⊥) → (n ≡ 3 → ⊥) → (n ≡ 4 → ⊥) → (n ≡ 5 → ⊥) → (n ≡ 6 → ⊥) → (n ≡ 7 → ⊥) → (n ≡ 8 → ⊥) → (n ≡ 9 → ⊥) → (n ≡ 10 → ⊥) → refuse 6 ≡ kind_named c n
unfolding kind_named kind_in
named_else c n h1 h2 h3 h4 h5 h6 h7 h8 h9 h10 =
    rw (ne_eqb n 1 h1, ne_eqb n 2 h2, ne_eqb n 3 h3, ne_eqb n 4 h4, ne_eqb n 5 h5, ne_eqb n 6 h6, ne_eqb n 7 h7, ne_eqb n 8 h8, ne_eqb n 9 h9, ne_eqb n 10 h10)

-- ---- the words of bits

abbrev known_words : List ℕ
known_words = 0 ∷ 0x001f0003007f003f ∷ 0x000b000b0110001f ∷ 0x0001000100030003 ∷ []

abbrev plain_words : List ℕ
plain_words = 0 ∷ 0x001f0003003f003f ∷ 0x0000000b0110001f ∷ 0 ∷ []

abbrev bit_in : List ℕ → ℕ → Bool
bit_in words c = eqb (get_or words (c / 64) 0 / 2 ^ (c % 64) % 2) 1

bits_right : (c : ℕ) → c < 256 → ◌≡◌ {A = Bool × Bool} (bit_in known_words c, bit_in plain_words c) (is_known c, is_plain c)
unfolding up_from codes kind_in kind_of is_known is_plain accepts
bits_right c h = same_below {A = Bool × Bool} (λ c. (bit_in known_words c, bit_in plain_words c)) (λ c. (is_known c, is_plain c)) 256 refl c h

-- a word of a list whose bits are right
word_right : (words : List ℕ) (asked : ℕ → Bool) → ((c : ℕ) → c < 256 → bit_in words c ≡ asked c) → (k : ℕ) → k < 4 → BitsOf asked k (get_or words k 0)
word_right words asked right k h = record { bit = λ i l. at i l }
  where
    at : (i : ℕ) → i < 64 → eqb (get_or words k 0 / 2 ^ i % 2) 1 ≡ asked (64 * k + i)
    at i l =
        let q : (64 * k + i) / 64 ≡ k = omega arith in
        let m : (64 * k + i) % 64 ≡ i = omega arith in
        rw (q, m) at (right (64 * k + i) (omega arith))

module _ (k n : ℕ) (h : k < 4) (e : k ≡ n) where
  known : BitsOf is_known k (get_or known_words n 0)
  known = subst (λ (m : ℕ). BitsOf is_known k (get_or known_words m 0)) e (word_right known_words is_known (λ c l. ap (λ (p : Bool × Bool). p.0) (bits_right c l)) k h)

  plain : BitsOf is_plain k (get_or plain_words n 0)
  plain = subst (λ (m : ℕ). BitsOf is_plain k (get_or plain_words m 0)) e (word_right plain_words is_plain (λ c l. ap (λ (p : Bool × Bool). p.1) (bits_right c l)) k h)

module _ (k : ℕ) (h : k < 4) where
  pub known_1 : k ≡ 1 → BitsOf is_known k 0x001f0003007f003f
  known_1 e = known k 1 h e

  pub known_2 : k ≡ 2 → BitsOf is_known k 0x000b000b0110001f
  known_2 e = known k 2 h e

  pub known_3 : k ≡ 3 → BitsOf is_known k 0x0001000100030003
  known_3 e = known k 3 h e

  pub known_else : (k ≡ 1 → ⊥) → (k ≡ 2 → ⊥) → (k ≡ 3 → ⊥) → BitsOf is_known k 0
  known_else a b c = known k 0 h (omega (arith, a, b, c))

  pub plain_0 : k ≡ 0 → BitsOf is_plain k 0
  plain_0 e = plain k 0 h e

  pub plain_1 : k ≡ 1 → BitsOf is_plain k 0x001f0003003f003f
  plain_1 e = plain k 1 h e

  pub plain_2 : k ≡ 2 → BitsOf is_plain k 0x0000000b0110001f
  plain_2 e = plain k 2 h e

  pub plain_else : (k ≡ 0 → ⊥) → (k ≡ 1 → ⊥) → (k ≡ 2 → ⊥) → BitsOf is_plain k 0
  plain_else a b c = plain k 3 h (omega (arith, a, b, c))

-- the bit of a code in its word
pub bit_of : (asked : ℕ → Bool) (c word : ℕ) → BitsOf asked (c / 64) word → eqb (word / 2 ^ (c % 64) % 2) 1 ≡ asked c
bit_of asked c word b =
    let q : 64 * (c / 64) + c % 64 ≡ c = omega arith in
    b.bit (c % 64) (omega arith) ∙ ap asked q
