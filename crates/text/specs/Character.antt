-- The character that a string starts with, by the rows of RFC 3629. Assumes nothing: these are definitions.
use Rattle.std.specs.Prelude.{ℕ, ◌-◌, cond, List, [], ◌∷◌, Option, None, Some, length, drop, replicate}
use Rattle.text.specs.Utf8.{Range, tail, characters, starts}

-- the number of octets of the first row that s starts with
unfoldable pub length_in : List (List Range) → List ℕ → Option ℕ
length_in [] s = None
length_in (row ∷ rows) s = cond (starts row s) (Some (length row)) (length_in rows s)

unfoldable pub char_length : List ℕ → Option ℕ
char_length s = length_in characters s

-- what follows the first of n octets: an octet from low to high, and tails
unfoldable pub followers : ℕ → ℕ → ℕ → List Range
followers n low high = (low, high) ∷ replicate (n - 2) tail

-- n where these follow the first octet of s
unfoldable pub followed : ℕ → ℕ → ℕ → List ℕ → Option ℕ
followed n low high s = cond (starts (followers n low high) (drop 1 s)) (Some n) None
