-- The words of a line, and what they say: a number in decimal digits, bytes in hexadecimal ones.
-- Assumes nothing: these are definitions.
use Rattle.std.specs.Prelude.{ℕ, zero, suc, ◌+◌, ◌*◌, ◌-◌, ◌^◌, ◌≡◌, Bool, false, cond, not, ◌&&◌, List, [], ◌∷◌, length, take, drop, position, Option, None, Some, ltb, eqb}
use Rattle.octets.specs.Octets.{put}

-- ---- places

-- the part of s from one place to another, as far as s goes
unfoldable pub part_in : ℕ → ℕ → List ℕ → List ℕ
part_in from end s = take (end - from) (drop from s)

-- how many bytes stand before the first that passes the test; all where none does
unfoldable pub until : (ℕ → Bool) → List ℕ → ℕ
until t [] = 0
until t (c ∷ s) = cond (t c) 0 (suc (until t s))

-- the first place from a place on whose byte passes the test; the end where there is none
abbrev pub place_from : (ℕ → Bool) → ℕ → List ℕ → ℕ
place_from t from s = from + until t (drop from s)

abbrev pub is_byte : ℕ → ℕ → Bool
is_byte b c = eqb c b

abbrev pub other_than : ℕ → ℕ → Bool
other_than b c = not (eqb c b)

-- ---- words

abbrev pub blank : ℕ
blank = 0x20

-- s without the blanks at its front
unfoldable pub unblanked : List ℕ → List ℕ
unblanked s = drop (until (other_than blank) s) s

-- the n-th word, counted from 0; blanks stand between words
unfoldable pub word_in : ℕ → List ℕ → List ℕ
word_in zero s = take (until (is_byte blank) (unblanked s)) (unblanked s)
word_in (suc n) s = word_in n (drop (until (is_byte blank) (unblanked s)) (unblanked s))

-- ---- digits

-- 0123456789ABCDEF
abbrev pub digits : List ℕ
digits = 0x30 ∷ 0x31 ∷ 0x32 ∷ 0x33 ∷ 0x34 ∷ 0x35 ∷ 0x36 ∷ 0x37 ∷ 0x38 ∷ 0x39 ∷ 0x41 ∷ 0x42 ∷ 0x43 ∷ 0x44 ∷ 0x45 ∷ 0x46 ∷ []

-- a digit stands for its place among these
unfoldable pub digit_of : ℕ → Option ℕ
digit_of b = position (is_byte b) digits

-- a digit that stands for a number below k
abbrev pub is_below : ℕ → Option ℕ → Bool
is_below k None = false
is_below k (Some d) = ltb d k

-- what a digit stands for; 0 where it is none
abbrev pub worth : Option ℕ → ℕ
worth None = 0
worth (Some d) = d

-- a number after which the decimal digits at the front of s are read, until it has nineteen
unfoldable pub decimal_from : ℕ → List ℕ → ℕ
decimal_from n [] = n
decimal_from n (b ∷ s) = cond (is_below 10 (digit_of b) && ltb n (10 ^ 18)) (decimal_from (n * 10 + worth (digit_of b)) s) n

-- the number that s starts with; 0 where it starts with none
unfoldable pub decimal_in : List ℕ → ℕ
decimal_in s = decimal_from 0 s

-- the byte that two digits say; what is no digit counts as 0
abbrev pub byte_of : ℕ → ℕ → ℕ
byte_of a b = worth (digit_of a) * 16 + worth (digit_of b)

-- the bytes that the pairs of digits say
unfoldable pub hex_in : List ℕ → List ℕ
hex_in [] = []
hex_in (a ∷ []) = []
hex_in (a ∷ b ∷ s) = byte_of a b ∷ hex_in s

-- those of them that an output has room for
unfoldable pub hex_for : List ℕ → List ℕ → List ℕ
hex_for w out = take (length out) (hex_in w)

-- a call answers r and leaves `after` where `before` stood: so many bytes of the word w are laid down from the front
pub record Spelled (w : List ℕ) (r : ℕ) (before after : List ℕ) : Type 0 where
  pub count : r ≡ length (hex_for w before)
  pub output : after ≡ put before 0 (hex_for w before)
