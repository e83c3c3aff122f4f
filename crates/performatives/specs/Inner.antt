-- What the private functions promise each other. No public promise speaks of these.
-- Assumes nothing: these are definitions.
use Rattle.std.specs.Prelude.{ℕ, zero, suc, ◌+◌, ◌-◌, ◌*◌, ◌/◌, ◌%◌, ◌^◌, ◌<◌, ◌≤◌, ◌≡◌, Bool, false, cond, ◌&&◌, List, [], ◌∷◌, length, take, drop, get_or, leb, eqb, Option, None, Some}
use Rattle.octets.specs.Verdict.{Verdict, refuse, accept, and_then}
use Rattle.octets.specs.Octets.{starts_with}
use Rattle.values.specs.Value.{value_end}
use Rattle.values.specs.Null.{or_null}
use Rattle.performatives.specs.declared.composite.Items as I
use Rattle.performatives.specs.Fields.{Field, Any, UShort, UInt, String, Error, may, must, defaults, fields_of, field_at}
use Rattle.performatives.specs.Performative.{Items, fits, fit, fields_by, number_or}

-- ---- a described list

abbrev pub items_says : Option I.Items → Verdict Items
items_says (Some l) = accept (record { count = l.count; from = l.from; end = l.end })
items_says None = refuse 6

-- 00, a ulong of one byte, the code of a list with a size of one byte, and two bytes after it
unfoldable pub is_short : List ℕ → Bool
is_short s = leb 6 (length s) && (eqb (get_or s 0 0) 0 && (eqb (get_or s 1 0) 0x53 && eqb (get_or s 3 0) 0xc0))

-- ---- fields

abbrev pub rows_in : Option (List Field) → List Field
rows_in None = []
rows_in (Some rows) = rows

-- the fields of a performative from field i on
unfoldable pub rows_from : ℕ → ℕ → List Field
rows_from code i = drop i (rows_in (fields_of code))

unfoldable pub row_in : List (ℕ × Field) → ℕ → Option Field
row_in [] n = None
row_in (r ∷ rs) n = cond (eqb n r.0) (Some r.1) (row_in rs n)

-- the row that a letter stands for
unfoldable pub row_named : ℕ → Option Field
row_named n =
    row_in
    ((0, may Any) ∷ (1, may String) ∷ (2, must String) ∷ (3, may UInt) ∷ (4, must UInt) ∷ (5, defaults UInt 4294967295)
    ∷ (6, may UShort) ∷ (7, defaults UShort 65535) ∷ (8, may Error) ∷ [])
    n

-- the letters in a word, four bits each, are those of a performative's fields; above them stands how many fields there must be
pub record RowsIn (code word : ℕ) : Type 0 where
  pub row : (i : ℕ) → i < 14 → row_named (word / 2 ^ (4 * i) % 16) ≡ field_at code i
  pub least : (i : ℕ) → fit (rows_from code i) [] ≡ leb (word / 2 ^ 56) i

-- whether a value may stand in a field, if there is such a field
unfoldable pub suits : Option Field → List ℕ → Bool
suits None f = false
suits (Some r) f = fits r.type r.mandatory f

-- ---- the values of a list, found one after the other

abbrev pub after_or : ℕ → Verdict ℕ → ℕ
after_or at (refuse k) = at
after_or at (accept n) = at + n

-- the place after the value at a place; the place itself where there is none
unfoldable pub next : List ℕ → ℕ → ℕ
next s at = after_or at (value_end 16 (drop at s))

-- where value i of those in s begins; where they end, if there are not so many
unfoldable pub skip : ℕ → List ℕ → ℕ
skip zero s = 0
skip (suc i) s = next s (skip i s)

-- its bytes; none, if there are not so many
unfoldable pub item : ℕ → List ℕ → List ℕ
item i s = take (next s (skip i s) - skip i s) (drop (skip i s) s)

-- field i; one that is missing is null
unfoldable pub value_at : ℕ → List ℕ → List ℕ
value_at i s = or_null (item i s)

-- where the last field of a performative begins, if the values of a list may stand in its fields
unfoldable pub last_of : ℕ → ℕ → List ℕ → Verdict ℕ
last_of code count s = and_then (fields_by (rows_from code 0) count s) (λ _. accept (skip (count - 1) s))

-- ---- what the fields say

-- r is the number in field f, where null stands for another; r is as low as f is short
pub record NumberRead (other : ℕ) (f : List ℕ) (r : ℕ) : Type 0 where
  pub is : r ≡ number_or other f
  pub low : (w : ℕ) → length f ≤ 1 + w → other < 2 ^ (8 * w) → r < 2 ^ (8 * w)

-- an Open, by its third to fifth field
abbrev pub open_says : List ℕ → List ℕ → List ℕ → List ℕ
open_says max_frame_size channel_max idle_time_out = number_or 4294967295 max_frame_size ∷ number_or 65535 channel_max ∷ number_or 0 idle_time_out ∷ []

-- how many bytes stand before the text of a symbol or a string
abbrev pub text_from : List ℕ → ℕ
text_from s = cond (starts_with (0xa1 ∷ 0xa3 ∷ []) s) 2 5
