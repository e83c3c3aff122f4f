-- Worked examples, by computation. The line is "ab  1F 07x".
-- Assumes nothing.
use mathlib.Core.Path.{◌≡◌, refl}
use mathlib.Core.List.{List, [], ◌∷◌, map}
use Prim.Native.Nat.{ℕ}
use Rattle.words.specs.Words.{until, unblanked, word_in, digit_of, decimal_from, decimal_in, hex_in}

line : List ℕ
line = 0x61 ∷ 0x62 ∷ 0x20 ∷ 0x20 ∷ 0x31 ∷ 0x46 ∷ 0x20 ∷ 0x30 ∷ 0x37 ∷ 0x78 ∷ []

its_words : map (λ n. word_in n line) (0 ∷ 1 ∷ 2 ∷ 3 ∷ []) ≡ (0x61 ∷ 0x62 ∷ []) ∷ (0x31 ∷ 0x46 ∷ []) ∷ (0x30 ∷ 0x37 ∷ 0x78 ∷ []) ∷ [] ∷ []
unfolding line until unblanked word_in
its_words = refl

-- 1 of "1F", 7 of "07x", 0 of "ab"
numbers : map (λ n. decimal_in (word_in n line)) (1 ∷ 2 ∷ 0 ∷ []) ≡ 1 ∷ 7 ∷ 0 ∷ []
unfolding line until unblanked word_in digit_of decimal_from decimal_in
numbers = refl

-- a digit without its second one, and what is no digit
bytes : map hex_in ((0x31 ∷ 0x46 ∷ []) ∷ (0x30 ∷ 0x37 ∷ 0x78 ∷ []) ∷ (0x61 ∷ 0x31 ∷ []) ∷ []) ≡ (0x1f ∷ []) ∷ (7 ∷ []) ∷ (1 ∷ []) ∷ []
unfolding until digit_of hex_in
bytes = refl
