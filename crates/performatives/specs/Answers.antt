-- What each case of a public answer says.
-- Assumes nothing: these are definitions.
use Rattle.std.specs.Prelude.{ℕ, List, [], ◌∷◌, Option, None, Some}
use Rattle.octets.specs.Verdict.{Verdict, refuse, accept}
use Rattle.performatives.specs.declared.FieldType as C
use Rattle.performatives.specs.declared.FieldType.TheVariants as T
use Rattle.performatives.specs.declared.Field as F
use Rattle.performatives.specs.declared.Described as D
use Rattle.performatives.specs.declared.Condition.{Condition}
use Rattle.performatives.specs.declared.Performative as P
use Rattle.performatives.specs.declared.Performative.TheVariants.{Open, Begin, Attach, Flow, Transfer, Disposition, Detach, End, Close}
use Rattle.performatives.specs.declared.Body.{Body}
use Rattle.performatives.specs.Fields.{FieldType, Any, UShort, UInt, String, Error, Field}
use Rattle.performatives.specs.Performative.{Described, Said}

-- ---- the table of fields

abbrev pub type_says : C.FieldType → FieldType
type_says T.Any = Any
type_says T.UShort = UShort
type_says T.UInt = UInt
type_says T.String = String
type_says T.Error = Error

abbrev pub field_says : F.Field → Field
field_says f = record { type = type_says f.kind; mandatory = f.mandatory; default = f.default }

abbrev pub row_says : Option F.Field → Option Field
row_says (Some f) = Some (field_says f)
row_says None = None

-- ---- a described list

abbrev pub described_says : Option D.Described → Verdict Described
described_says (Some d) = accept (record { code = d.code; count = d.count; from = d.from; end = d.end })
described_says None = refuse 6

-- ---- a performative

abbrev pub channel_says : Option ℕ → List ℕ
channel_says None = []
channel_says (Some n) = n ∷ []

abbrev pub condition_says : Option Condition → List ℕ
condition_says None = []
condition_says (Some c) = c.from ∷ c.len ∷ []

-- the number of its descriptor, and what it says
abbrev pub performative_says : P.Performative → ℕ × List ℕ
performative_says (Open max_frame_size channel_max idle_time_out) = (16, max_frame_size ∷ channel_max ∷ idle_time_out ∷ [])
performative_says (Begin channel) = (17, channel_says channel)
performative_says Attach = (18, [])
performative_says Flow = (19, [])
performative_says Transfer = (20, [])
performative_says Disposition = (21, [])
performative_says (Detach condition) = (22, condition_says condition)
performative_says (End condition) = (23, condition_says condition)
performative_says (Close condition) = (24, condition_says condition)

abbrev pub body_says : Option Body → Verdict Said
body_says (Some b) = accept (record { code = (performative_says b.performative).0; end = b.end; values = (performative_says b.performative).1 })
body_says None = refuse 6
