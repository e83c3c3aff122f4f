-- The fields of the performatives: Part 2, sections 2.7.1 to 2.7.9 and 2.8.14, with the types that document 01 has checked.
-- Assumes nothing: these are definitions.
use Rattle.std.specs.Prelude.{ℕ, zero, suc, Bool, true, false, cond, List, [], ◌∷◌, replicate, eqb, Option, None, Some}

-- Any is a field whose type is not checked: a well-formed value of Part 1
pub data FieldType : Type 0 where
  Any UShort UInt String Error : FieldType

pub record Field : Type 0 where
  pub type : FieldType
  pub mandatory : Bool
  pub default : Option ℕ

abbrev pub may : FieldType → Field
may t = record { type = t; mandatory = false; default = None }

abbrev pub must : FieldType → Field
must t = record { type = t; mandatory = true; default = None }

abbrev pub defaults : FieldType → ℕ → Field
defaults t n = record { type = t; mandatory = false; default = Some n }

-- of each performative the number of its descriptor, and its fields
abbrev pub performatives : List (ℕ × List Field)
performatives =
    (16, must String ∷ may String ∷ defaults UInt 4294967295 ∷ defaults UShort 65535 ∷ may UInt ∷ replicate 5 (may Any))
    ∷ (17, may UShort ∷ must UInt ∷ must UInt ∷ must UInt ∷ defaults UInt 4294967295 ∷ replicate 3 (may Any))
    ∷ (18, replicate 14 (may Any))
    ∷ (19, replicate 11 (may Any))
    ∷ (20, replicate 11 (may Any))
    ∷ (21, replicate 6 (may Any))
    ∷ (22, may Any ∷ may Any ∷ may Error ∷ [])
    ∷ (23, may Error ∷ [])
    ∷ (24, may Error ∷ [])
    ∷ []

unfoldable pub fields_in : List (ℕ × List Field) → ℕ → Option (List Field)
fields_in [] code = None
fields_in (row ∷ rows) code = cond (eqb code row.0) (Some row.1) (fields_in rows code)

-- the fields of the performative with this descriptor; none where it is no performative's
unfoldable pub fields_of : ℕ → Option (List Field)
fields_of code = fields_in performatives code

unfoldable pub field_in : List Field → ℕ → Option Field
field_in [] i = None
field_in (r ∷ rows) zero = Some r
field_in (r ∷ rows) (suc i) = field_in rows i

unfoldable pub field_of : Option (List Field) → ℕ → Option Field
field_of None i = None
field_of (Some rows) i = field_in rows i

-- the i-th field of the performative with this descriptor, if there is one
unfoldable pub field_at : ℕ → ℕ → Option Field
field_at code i = field_of (fields_of code) i
