-- The lent tables of a connection: for each channel number a place of 28 bytes, with seven fields, numbers of 32 bits of which the first byte counts most.
-- Of an outgoing channel: field 0, its link, 1, its handle, and 2, the first incoming channel that is tied through it. Of an incoming channel: 3, the outgoing channel through which it
-- is tied, 4, the handle, and 5 and 6, the next and the previous channel in the list of the outgoing one. Fields 2, 3, 5 and 6 have a channel as one more than its number, and 0 for none.
-- Assumes nothing: these are definitions.
use Rattle.std.specs.Prelude.{◌≡◌, Bool, cond, List, ℕ, ◌+◌, ◌*◌, ◌/◌, ◌%◌, ◌≤◌, ◌<◌, leb, ltb, length, get_or, set, drop}

-- the i-th number
unfoldable pub word : List ℕ → ℕ → ℕ
word s i = get_or s (4 * i) 0 * 16777216 + get_or s (4 * i + 1) 0 * 65536 + get_or s (4 * i + 2) 0 * 256 + get_or s (4 * i + 3) 0

-- the slice with x as its i-th number
unfoldable pub store : List ℕ → ℕ → ℕ → List ℕ
store s i x = set (set (set (set s (4 * i) (x / 16777216)) (4 * i + 1) (x / 65536 % 256)) (4 * i + 2) (x / 256 % 256)) (4 * i + 3) (x % 256)

-- there is a place for each of the first n numbers
abbrev pub Covers : ℕ → List ℕ → Type 0
Covers n t = 28 * n ≤ length t

unfoldable pub covers : ℕ → List ℕ → Bool
covers n t = leb (28 * n) (length t)

unfoldable pub field : List ℕ → ℕ → ℕ → ℕ
field t k f = word t (7 * k + f)

-- the tables with x in field f of number k
unfoldable pub write : List ℕ → ℕ → ℕ → ℕ → List ℕ
write t k f x = store t (7 * k + f) x

-- the same, where k is one of the first n numbers
unfoldable pub put : ℕ → List ℕ → ℕ → ℕ → ℕ → List ℕ
put n t k f x = cond (ltb k n) (write t k f x) t

-- what stands after the places of the first n numbers
abbrev pub past : ℕ → List ℕ → List ℕ
past n t = drop (28 * n) t

-- the fields from low to below high are as before, and so is what stands after the places of the first n numbers
pub record Keeps (low high n : ℕ) (s s' : List ℕ) : Type 0 where
  pub long : length s' ≡ length s
  pub same : (k f : ℕ) → low ≤ f → f < high → field s' k f ≡ field s k f
  pub rest : (m : ℕ) → n ≤ m → past m s' ≡ past m s
