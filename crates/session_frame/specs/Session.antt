-- A session's frame, lent as a whole frame and written out: its performative in the written form, defaults written out, fields without a checked type
-- copied (document 01, "Frame and body").
-- Assumes nothing: these are definitions.
use Rattle.std.specs.Prelude.{ℕ, cond, List, [], ◌∷◌, ◌++◌, drop, Option, None, Some}
use Rattle.octets.specs.Verdict.{Verdict, refuse, accept, require, and_then}
use Rattle.octets.specs.Output.{room_for}
use Rattle.octets.specs.Octets.{starts_with}
use Rattle.values.specs.Null.{null, is_null}
use Rattle.serializer.specs.Written.{uint, ushort, text, composite}
use Rattle.performatives.specs.Fields.{FieldType, Any, UShort, UInt, String, Error, Field, fields_of}
use Rattle.performatives.specs.Performative.{number_of, Described, described, items_of, split, Performative}
use Rattle.frame_decoder.specs.Frame.{Frame, body_in, session_frame}
use Rattle.frame_encoder.specs.Frames.{frame_bytes, limited}

-- the bytes of a string or a symbol
unfoldable pub text_of : List ℕ → List ℕ
text_of f = cond (starts_with (0xa1 ∷ 0xa3 ∷ []) f) (drop 2 f) (drop 5 f)

-- an error's fields: the condition, and the others as they stand. They are two levels deeper than the error itself
unfoldable pub error_fields : List ℕ → Verdict Described → Verdict (List (List ℕ))
error_fields f d = and_then d (λ e. split 14 e.count (items_of e f))

abbrev pub with_condition : List (List ℕ) → List (List ℕ)
with_condition [] = []
with_condition (c ∷ fs) = text 0xa3 (text_of c) ∷ fs

abbrev pub error_of : Verdict (List (List ℕ)) → List ℕ
error_of (refuse k) = null
error_of (accept fs) = composite 29 (with_condition fs)

unfoldable pub shortest : FieldType → List ℕ → List ℕ
shortest Any f = f
shortest UShort f = ushort (number_of f)
shortest UInt f = uint (number_of f)
shortest String f = text 0xa1 (text_of f)
shortest Error f = error_of (error_fields f (described f))

abbrev pub default_of : FieldType → Option ℕ → List ℕ
default_of t None = null
default_of Any (Some n) = null
default_of UShort (Some n) = ushort n
default_of UInt (Some n) = uint n
default_of String (Some n) = null
default_of Error (Some n) = null

unfoldable pub written_as : FieldType → Option ℕ → List ℕ → List ℕ
written_as t default f = cond (is_null f) (default_of t default) (shortest t f)

abbrev pub written_field : Field → List ℕ → List ℕ
written_field r f = written_as r.type r.default f

-- by their rows; those that are missing are null
unfoldable pub written_fields : List Field → List (List ℕ) → List (List ℕ)
written_fields [] fs = []
written_fields (r ∷ rows) [] = written_field r null ∷ written_fields rows []
written_fields (r ∷ rows) (f ∷ fs) = written_field r f ∷ written_fields rows fs

abbrev pub fields_written : Option (List Field) → List (List ℕ) → List (List ℕ)
fields_written None fs = fs
fields_written (Some rows) fs = written_fields rows fs

-- a performative that was read, in the written form
unfoldable pub performative_written : Performative → List ℕ
performative_written p = composite p.code (fields_written (fields_of p.code) p.fields)

-- ---- the frame

unfoldable pub session_bytes : List ℕ → Frame × Performative → List ℕ
session_bytes s r = frame_bytes r.0.channel (performative_written r.1 ++ drop r.1.end (body_in r.0 s))

-- 9, then 1, 3, 5, 6, 7 of the frame, then 27
unfoldable pub write_session : ℕ → List ℕ → ℕ → List ℕ → Verdict (List ℕ)
write_session highest s limit out =
    require 9 (room_for 0 out) (λ _.
    and_then (session_frame highest s) (λ r.
    limited limit (session_bytes s r)))
