-- The protocol header, Part 2, section 2.2: eight bytes, which are "AMQP", a protocol id, and the major, minor and revision numbers of a version.
-- Assumes nothing: these are definitions.
use Rattle.std.specs.Prelude.{ℕ, Bool, true, false, ◌&&◌, ◌||◌, cond, List, [], ◌∷◌, ◌++◌, length, get_or, leb, eqb}
use Rattle.octets.specs.Verdict.{Verdict, accept, require, and_then}
use Rattle.octets.specs.Output.{room_for}

pub record ProtocolHeader : Type 0 where
  pub id : ℕ
  pub major : ℕ
  pub minor : ℕ
  pub revision : ℕ

-- "AMQP"
abbrev pub prefix : List ℕ
prefix = 0x41 ∷ 0x4D ∷ 0x51 ∷ 0x50 ∷ []

-- 0 is AMQP, 2 is TLS, 3 is SASL
unfoldable pub is_protocol_id : ℕ → Bool
is_protocol_id n = eqb n 0 || eqb n 2 || eqb n 3

-- the number as a protocol id; 2 where it is none
unfoldable pub protocol_id : ℕ → Verdict ℕ
protocol_id n = require 2 (is_protocol_id n) (λ _. accept n)

-- whether s starts with all of these bytes
unfoldable pub starts_with_all : List ℕ → List ℕ → Bool
starts_with_all [] s = true
starts_with_all (b ∷ p) [] = false
starts_with_all (b ∷ p) (x ∷ s) = eqb x b && starts_with_all p s

-- the header that the bytes of s start with: 1 under eight bytes, 2 where it is malformed. What stands after the eighth byte is not looked at
unfoldable pub header : List ℕ → Verdict ProtocolHeader
header s =
    require 1 (leb 8 (length s)) (λ _.
    require 2 (starts_with_all prefix s) (λ _.
    and_then (protocol_id (get_or s 4 0)) (λ id.
    accept (record { id = id; major = get_or s 5 0; minor = get_or s 6 0; revision = get_or s 7 0 }))))

-- the header of a protocol's version 1.0.0
abbrev pub version100 : ℕ → ProtocolHeader
version100 id = record { id = id; major = 1; minor = 0; revision = 0 }

unfoldable pub has_id : ℕ → ProtocolHeader → Bool
has_id n h = eqb h.id n

unfoldable pub is_amqp100 : ProtocolHeader → Bool
is_amqp100 h = has_id 0 h && eqb h.major 1 && eqb h.minor 0 && eqb h.revision 0

-- a well-formed header is that of AMQP 1.0.0, or it is answered "other protocol"
pub data Protocol : Type 0 where
  amqp100 : Protocol
  other : ProtocolHeader → Protocol

unfoldable pub protocol : ProtocolHeader → Protocol
protocol h = cond (is_amqp100 h) amqp100 (other h)

-- what receiving the bytes of s as a header is answered
unfoldable pub received : List ℕ → Verdict Protocol
received s = and_then (header s) (λ h. accept (protocol h))

unfoldable pub header_bytes : ProtocolHeader → List ℕ
header_bytes h = prefix ++ h.id ∷ h.major ∷ h.minor ∷ h.revision ∷ []

-- sending a header: 9 without room in the output, or else the eight bytes
unfoldable pub write_header : ProtocolHeader → List ℕ → Verdict (List ℕ)
write_header h out = require 9 (room_for 0 out) (λ _. accept (header_bytes h))
