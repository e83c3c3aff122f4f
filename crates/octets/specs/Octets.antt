-- Numbers as bytes, the first of which counts most, and bytes laid into a buffer.
-- Assumes nothing: these are definitions.
use Rattle.std.specs.Prelude.{ℕ, zero, suc, ◌+◌, ◌*◌, ◌/◌, ◌%◌, ◌^◌, Bool, false, cond, ◌||◌, List, [], ◌∷◌, ◌++◌, length, take, drop, leb, eqb}

-- a number after which the bytes of s are read
unfoldable pub big_endian_from : ℕ → List ℕ → ℕ
big_endian_from n [] = n
big_endian_from n (b ∷ s) = big_endian_from (n * 256 + b) s

-- the number that the bytes of s are
unfoldable pub big_endian : List ℕ → ℕ
big_endian s = big_endian_from 0 s

-- x as w bytes
unfoldable pub bytes_of : ℕ → ℕ → List ℕ
bytes_of zero x = []
bytes_of (suc w) x = x / 256 ^ w % 256 ∷ bytes_of w x

abbrev pub is_in : List ℕ → ℕ → Bool
is_in [] c = false
is_in (d ∷ ds) c = eqb c d || is_in ds c

-- whether the first byte of s is one of these
unfoldable pub starts_with : List ℕ → List ℕ → Bool
starts_with codes [] = false
starts_with codes (c ∷ s) = is_in codes c

-- the buffer d with vs in the place of what stood from `at` on; d itself where vs does not fit there
unfoldable pub put : List ℕ → ℕ → List ℕ → List ℕ
put d at vs = cond (leb (at + length vs) (length d)) (take at d ++ vs ++ drop (at + length vs) d) d
