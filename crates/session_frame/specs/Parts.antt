-- What passes between the private functions: fields one after the other, by their rows, and how much of them is written.
-- Assumes nothing: these are definitions.
use Rattle.std.specs.Prelude.{ℕ, zero, suc, ◌+◌, ◌-◌, ◌^◌, ◌<◌, ◌≤◌, ◌≡◌, Bool, true, false, cond, ◌&&◌, List, [], ◌∷◌, ◌++◌, length, take, drop, eqb, Option, None, Some}
use Rattle.octets.specs.Verdict.{Verdict, refuse, accept, and_then}
use Rattle.octets.specs.Octets.{starts_with}
use Rattle.values.specs.Value.{value_end}
use Rattle.values.specs.Null.{null, is_null, or_null}
use Rattle.serializer.specs.Written.{text, joined, trimmed, composite_header, composite_of}
use Rattle.performatives.specs.Fields.{FieldType, Any, UShort, UInt, String, Error, Field, fields_of}
use Rattle.performatives.specs.Performative.{Described, described, split, performative}
use Rattle.frame_encoder.specs.Frames.{frame_header, frame_bytes, limited}
use Rattle.session_frame.specs.declared.field.Size.{Size}
use Rattle.session_frame.specs.declared.field.Kept.{Kept}
use Rattle.session_frame.specs.declared.error.ErrorParts.{ErrorParts}
use Rattle.session_frame.specs.declared.Plan.{Plan}
use Rattle.session_frame.specs.Session.{text_of, error_fields, error_of, written_field, performative_written}

-- ---- fields

abbrev pub end_or : ℕ → Verdict ℕ → ℕ
end_or n (refuse k) = n
end_or n (accept m) = m

-- how many bytes the first of so many fields takes; none where it is missing
unfoldable pub first_len : ℕ → List ℕ → ℕ
first_len zero s = 0
first_len (suc k) s = end_or 0 (value_end 16 s)

unfoldable pub first : ℕ → List ℕ → List ℕ
first count s = or_null (take (first_len count s) s)

abbrev pub after : ℕ → List ℕ → List ℕ
after count s = drop (first_len count s) s

abbrev pub rows_in : Option (List Field) → List Field
rows_in None = []
rows_in (Some rows) = rows

-- the rows from the i-th on
unfoldable pub fields_from : ℕ → ℕ → List Field
fields_from code i = drop i (rows_in (fields_of code))

-- so many fields by their rows, as they are written
unfoldable pub written_from : List Field → ℕ → List ℕ → List (List ℕ)
written_from [] count s = []
written_from (r ∷ rows) count s = written_field r (first count s) ∷ written_from rows (count - 1) (after count s)

-- what a field's type says of its length; of an error, how many fields it has
unfoldable pub Sized : FieldType → List ℕ → Type 0
Sized Any f = Unit {0}
Sized UShort f = length f ≤ 3
Sized UInt f = length f ≤ 5
Sized String f = Unit {0}
Sized Error f = (d : Described) → described f ≡ accept d → (1 ≤ d.count) × (d.count ≤ 3)

-- each of so many fields has the size of its type, and there are no more of them than rows
unfoldable pub Checked : List Field → ℕ → List ℕ → Type 0
Checked [] count s = count ≡ 0
Checked (r ∷ rows) count s = Sized r.type (first count s) × Checked rows (count - 1) (after count s)

-- the bytes of a number, at most eight
unfoldable pub number_bytes : List ℕ → List ℕ
number_bytes f = take 8 (drop 1 f)

-- where the bytes of a string or a symbol begin
unfoldable pub text_start : List ℕ → ℕ
text_start f = cond (starts_with (0xa1 ∷ 0xa3 ∷ []) f) 2 5

-- ---- fields that are written as they are

abbrev pub is_any : FieldType → Bool
is_any Any = true
is_any UShort = false
is_any UInt = false
is_any String = false
is_any Error = false

unfoldable pub all_any : List Field → Bool
all_any [] = true
all_any (r ∷ rows) = is_any r.type && all_any rows

-- whether it is a performative of which all fields are written as they are
abbrev pub copied : Option (List Field) → Bool
copied None = false
copied (Some rows) = all_any rows

-- so many fields as they are; from a malformed one on they are null
unfoldable pub as_they_are : ℕ → List ℕ → List (List ℕ)
as_they_are zero s = []
as_they_are (suc k) s = first (suc k) s ∷ as_they_are k (after (suc k) s)

-- ---- how much is written

unfoldable pub size_of : List ℕ → Size
size_of f = record { len = length f; null = is_null f }

unfoldable pub kept_of : List (List ℕ) → Kept
kept_of fs = record { count = length fs; len = length (joined fs) }

-- what is kept of a field and those after it
unfoldable pub kept_before : Size → Kept → Kept
kept_before f k = cond (f.null && eqb k.count 0) (record { count = 0; len = 0 }) (record { count = k.count + 1; len = k.len + f.len })

-- w fits into the buffer d at a place, and its end has a number of 32 bits
pub record Room (d : List ℕ) (at : ℕ) (w : List ℕ) : Type 0 where
  pub fits : at + length w ≤ length d
  pub low : at + length w < 2 ^ 32

-- ---- an error

-- what is kept of so many values in an error
unfoldable pub others_of : ℕ → List ℕ → Verdict Kept
others_of count s = and_then (split 14 count s) (λ fs. accept (kept_of (trimmed fs)))

-- the condition, and the others that are kept, as they are joined
unfoldable pub parts_joined : List ℕ → ℕ → ℕ → ℕ → List ℕ
parts_joined f from end len = text 0xa3 (text_of (take (end - from) (drop from f))) ++ take len (drop end f)

unfoldable pub parts_say : List ℕ → Option ErrorParts → List ℕ
parts_say f (Some p) = composite_header 29 (p.count + 1) (length (parts_joined f p.from p.end p.len)) ++ parts_joined f p.from p.end p.len
parts_say f None = null

abbrev pub Within : ℕ → Option ErrorParts → Type 0
Within n (Some p) = (p.from ≤ p.end) × (p.end + p.len ≤ n) × (p.count ≤ 2)
Within n None = Unit {0}

pub record PartsOf (f : List ℕ) (r : Option ErrorParts) : Type 0 where
  pub written : parts_say f r ≡ error_of (error_fields f (described f))
  pub within : Within (length f) r

-- ---- a performative

abbrev pub items_in : Plan → List ℕ → List ℕ
items_in p body = take (p.end - p.from) (drop p.from body)

-- the fields in their bytes, as they are written
abbrev pub plan_fields : Plan → List ℕ → List (List ℕ)
plan_fields p s = written_from (fields_from p.code 0) p.count s

abbrev pub planned : Plan → List ℕ → List (List ℕ)
planned p body = trimmed (plan_fields p (items_in p body))

-- what stands before the fields
unfoldable pub head_bytes : ℕ → ℕ → Plan → List ℕ
head_bytes channel size p = frame_header size channel ++ composite_header p.code p.kept p.len

unfoldable pub plan_bytes : ℕ → Plan → List ℕ → List ℕ
plan_bytes channel p body = frame_bytes channel (composite_of p.code (planned p body) ++ drop p.end body)

pub record Planned (p : Plan) (body : List ℕ) : Type 0 where
  pub code : p.code < 256
  pub from : p.from ≤ p.end
  pub end : p.end ≤ length body
  pub checked : Checked (fields_from p.code 0) p.count (items_in p body)
  pub kept : p.kept ≡ length (planned p body)
  pub len : p.len ≡ length (joined (planned p body))

unfoldable pub write_body : ℕ → List ℕ → ℕ → Verdict (List ℕ)
write_body channel body limit =
    and_then (performative body) (λ p.
    limited limit (frame_bytes channel (performative_written p ++ drop p.end body)))
