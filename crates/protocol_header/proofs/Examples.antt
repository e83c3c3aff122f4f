-- Headers, and what is answered when they are received.
-- Assumes nothing.
use mathlib.Core.Path.{◌≡◌, refl}
use mathlib.Core.List.{[], ◌∷◌}
use Rattle.octets.specs.Verdict.{refuse, accept, require, and_then}
use Rattle.protocol_header.specs.Header.{is_protocol_id, protocol_id, starts_with_all, header, version100, has_id, is_amqp100, amqp100, other, protocol, received, header_bytes}

pub amqp_1_0_0 : received (0x41 ∷ 0x4D ∷ 0x51 ∷ 0x50 ∷ 0x00 ∷ 0x01 ∷ 0x00 ∷ 0x00 ∷ []) ≡ accept amqp100
unfolding received header starts_with_all protocol_id is_protocol_id protocol is_amqp100 has_id require and_then
amqp_1_0_0 = refl

pub sasl_is_other : received (0x41 ∷ 0x4D ∷ 0x51 ∷ 0x50 ∷ 0x03 ∷ 0x01 ∷ 0x00 ∷ 0x00 ∷ []) ≡ accept (other (version100 3))
unfolding received header starts_with_all protocol_id is_protocol_id protocol is_amqp100 has_id require and_then
sasl_is_other = refl

pub id_1_is_malformed : received (0x41 ∷ 0x4D ∷ 0x51 ∷ 0x50 ∷ 0x01 ∷ 0x01 ∷ 0x00 ∷ 0x00 ∷ []) ≡ refuse 2
unfolding received header starts_with_all protocol_id is_protocol_id protocol is_amqp100 has_id require and_then
id_1_is_malformed = refl

pub seven_are_missing : received (0x41 ∷ 0x4D ∷ 0x51 ∷ 0x50 ∷ 0x00 ∷ 0x01 ∷ 0x00 ∷ []) ≡ refuse 1
unfolding received header starts_with_all protocol_id is_protocol_id protocol is_amqp100 has_id require and_then
seven_are_missing = refl

pub amqp_bytes : header_bytes (version100 0) ≡ 0x41 ∷ 0x4D ∷ 0x51 ∷ 0x50 ∷ 0x00 ∷ 0x01 ∷ 0x00 ∷ 0x00 ∷ []
unfolding header_bytes
amqp_bytes = refl
