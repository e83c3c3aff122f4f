-- What the values of the crate's types stand for.
-- Assumes nothing: these are definitions.
use Rattle.std.specs.Prelude.{ℕ, Result, Ok, Err}
use Rattle.octets.specs.Verdict.{Verdict, refuse, accept}
use Rattle.octets.specs.Refusal.{number_of}
use Rattle.octets.specs.declared.Refusal.{Refusal}
use Rattle.protocol_header.specs.declared.ProtocolId.{ProtocolId}
use Rattle.protocol_header.specs.declared.ProtocolId.TheVariants.{Amqp, Tls, Sasl}
use Rattle.protocol_header.specs.declared.ProtocolHeader.{ProtocolHeader as HeaderStruct}
use Rattle.protocol_header.specs.declared.UnknownProtocolId.{UnknownProtocolId}
use Rattle.protocol_header.specs.declared.HeaderRead.{HeaderRead}
use Rattle.protocol_header.specs.declared.HeaderRead.TheVariants.{Amqp as Amqp100, Other}
use Rattle.protocol_header.specs.Header.{ProtocolHeader, Protocol, amqp100, other}

abbrev pub id_number : ProtocolId → ℕ
id_number Amqp = 0
id_number Tls = 2
id_number Sasl = 3

abbrev pub header_of : HeaderStruct → ProtocolHeader
header_of h = record { id = id_number h.id; major = h.major; minor = h.minor; revision = h.revision }

-- a number is a protocol id, or the header is malformed
unfoldable pub id_says : Result ProtocolId UnknownProtocolId → Verdict ℕ
id_says (Ok id) = accept (id_number id)
id_says (Err e) = refuse 2

unfoldable pub header_says : Result HeaderRead Refusal → Verdict Protocol
header_says (Ok Amqp100) = accept amqp100
header_says (Ok (Other h)) = accept (other (header_of h))
header_says (Err e) = refuse (number_of e)
