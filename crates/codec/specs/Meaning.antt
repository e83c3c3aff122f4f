-- What the fields of a performative mean, whichever way they are written; and what it means that a session's frame that was written is read back.
-- Assumes nothing: these are definitions.
use Rattle.std.specs.Prelude.{ℕ, ◌<◌, ◌≡◌, cond, List, [], ◌∷◌, ◌++◌, length, drop, Option, None, Some}
use Rattle.octets.specs.Verdict.{Verdict, refuse, accept}
use Rattle.values.specs.Null.{null, is_null}
use Rattle.serializer.specs.Written.{trimmed}
use Rattle.performatives.specs.Fields.{FieldType, Any, UShort, UInt, String, Error, Field, fields_of}
use Rattle.performatives.specs.Performative.{number_of, described, Performative}
use Rattle.frame_decoder.specs.Frame.{Frame, body_in, session_frame}
use Rattle.session_frame.specs.Session.{text_of, error_fields, session_bytes}

-- every number is an octet
abbrev pub Octets : List ℕ → Type 0
Octets [] = Unit {0}
Octets (b ∷ s) = (b < 256) × Octets s

-- no value; a number; the bytes of a string; an error's condition and its other fields, without trailing nulls; any other value by its bytes
pub data Meaning : Type 0 where
  absent : Meaning
  number : ℕ → Meaning
  text : List ℕ → Meaning
  error : List ℕ → List (List ℕ) → Meaning
  value : List ℕ → Meaning

abbrev pub error_meant : Verdict (List (List ℕ)) → Meaning
error_meant (refuse k) = absent
error_meant (accept []) = absent
error_meant (accept (c ∷ fs)) = error (text_of c) (trimmed fs)

unfoldable pub meant_as : FieldType → List ℕ → Meaning
meant_as Any f = value f
meant_as UShort f = number (number_of f)
meant_as UInt f = number (number_of f)
meant_as String f = text (text_of f)
meant_as Error f = error_meant (error_fields f (described f))

abbrev pub default_meant : Option ℕ → Meaning
default_meant None = absent
default_meant (Some n) = number n

-- null is the default, if the field has one
unfoldable pub meant : Field → List ℕ → Meaning
meant r f = cond (is_null f) (default_meant r.default) (meant_as r.type f)

-- by their rows; those that are missing are null
unfoldable pub meanings : List Field → List (List ℕ) → List Meaning
meanings [] fs = []
meanings (r ∷ rows) [] = meant r null ∷ meanings rows []
meanings (r ∷ rows) (f ∷ fs) = meant r f ∷ meanings rows fs

abbrev pub meanings_by : Option (List Field) → List (List ℕ) → List Meaning
meanings_by None fs = []
meanings_by (Some rows) fs = meanings rows fs

abbrev pub meanings_of : Performative → List Meaning
meanings_of p = meanings_by (fields_of p.code) p.fields

-- what stands after the performative
abbrev pub payload_of : List ℕ → Frame × Performative → List ℕ
payload_of s r = drop r.1.end (body_in r.0 s)

-- the frame r of s, written out, is read again, whatever stands after it: all of it, with the same channel, performative, meanings and payload; and it is
-- written as it stands
pub record SessionReadBack (highest : ℕ) (s : List ℕ) (r : Frame × Performative) (after : List ℕ) : Type 0 where
  pub again : Frame × Performative
  pub read : session_frame highest (session_bytes s r ++ after) ≡ accept again
  pub size : again.0.size ≡ length (session_bytes s r)
  pub channel : again.0.channel ≡ r.0.channel
  pub code : again.1.code ≡ r.1.code
  pub fields : meanings_of again.1 ≡ meanings_of r.1
  pub payload : payload_of (session_bytes s r ++ after) again ≡ payload_of s r
  pub bytes : session_bytes (session_bytes s r ++ after) again ≡ session_bytes s r
