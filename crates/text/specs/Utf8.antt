-- UTF-8, by the grammar of RFC 3629, section 4. Octets are numbers, and a range of octets is the pair of its first and its last.
-- Assumes nothing: these are definitions.
use Rattle.std.specs.Prelude.{ℕ, zero, suc, Bool, true, false, ◌&&◌, ◌||◌, List, [], ◌∷◌, length, drop, leb}

abbrev pub Range : Type 0
Range = ℕ × ℕ

-- UTF8-tail
abbrev pub tail : Range
tail = (0x80, 0xBF)

-- UTF8-char: a row for each way to write a character, with a range for each of its octets.
-- The first row is UTF8-1, the second UTF8-2, the next four are UTF8-3 and the last three UTF8-4
unfoldable pub characters : List (List Range)
characters =
    ((0x00, 0x7F) ∷ [])
    ∷ ((0xC2, 0xDF) ∷ tail ∷ [])
    ∷ ((0xE0, 0xE0) ∷ (0xA0, 0xBF) ∷ tail ∷ [])
    ∷ ((0xE1, 0xEC) ∷ tail ∷ tail ∷ [])
    ∷ ((0xED, 0xED) ∷ (0x80, 0x9F) ∷ tail ∷ [])
    ∷ ((0xEE, 0xEF) ∷ tail ∷ tail ∷ [])
    ∷ ((0xF0, 0xF0) ∷ (0x90, 0xBF) ∷ tail ∷ tail ∷ [])
    ∷ ((0xF1, 0xF3) ∷ tail ∷ tail ∷ tail ∷ [])
    ∷ ((0xF4, 0xF4) ∷ (0x80, 0x8F) ∷ tail ∷ tail ∷ [])
    ∷ []

unfoldable pub in_range : Range → ℕ → Bool
in_range r b = leb r.0 b && leb b r.1

-- s starts with an octet of each range
unfoldable pub starts : List Range → List ℕ → Bool
starts [] s = true
starts (r ∷ row) [] = false
starts (r ∷ row) (b ∷ s) = in_range r b && starts row s

abbrev pub is_empty : List ℕ → Bool
is_empty [] = true
is_empty (b ∷ s) = false

-- both; the second is asked only where the first holds
abbrev pub and_also : Bool → (Unit {0} → Bool) → Bool
and_also true next = next tt
and_also false next = false

unfoldable pub any : {A : Type 0} → (A → Bool) → List A → Bool
any holds [] = false
any holds (a ∷ rest) = holds a || any holds rest

-- UTF8-octets = *( UTF8-char ): s is empty, or it starts with the octets of some row and after them comes UTF8-octets. It has at most n characters
unfoldable pub utf8_within : ℕ → List ℕ → Bool
utf8_within zero s = is_empty s
utf8_within (suc n) s =
    is_empty s
    || any (λ row. and_also (starts row s) (λ _. utf8_within n (drop (length row) s))) characters

-- UTF8-octets, which has no more characters than octets
unfoldable pub utf8 : List ℕ → Bool
utf8 s = utf8_within (length s) s
