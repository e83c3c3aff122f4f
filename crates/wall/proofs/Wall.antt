-- The starred wall cases hold: both sides of each compute to the same.
-- Assumes nothing.
use mathlib.Core.Path.{refl}
use Rattle.octets.specs.Verdict.{require, and_then}
use Rattle.octets.specs.Octets.{big_endian_from, big_endian, bytes_of, starts_with}
use Rattle.octets.specs.Output.{room_for, laid}
use Rattle.protocol_header.specs.Header.{is_protocol_id, protocol_id, starts_with_all, header, has_id, is_amqp100, protocol, received, header_bytes}
use Rattle.values.specs.Value.{plus, followed_by, times, codes, kind_in, kind_of, bytes, number_in, boolean_end, variable_end, paired_in, opening, items, compound_end, body, after_code, level, run, value_end}
use Rattle.performatives.specs.Fields.{fields_in, fields_of}
use Rattle.performatives.specs.Performative.{number_of, sized, list_at, descriptor, described, split, error_shape, is_error, has_type, fits, fit, fields_by, rows_for, performative_by, performative, number_or, remote_channel, start_of, condition_at, condition}
use Rattle.frame_decoder.specs.Frame.{frame, body_in, content, read_frame}
use Rattle.serializer.specs.Written.{uint, ushort, text_header, text, list_header, joined, trimmed, composite_header, composite}
use Rattle.frame_encoder.specs.Frames.{frame_header, frame_bytes, limited, idle_field, open_fields, error_field}
use Rattle.wall.specs.Wall.{out, amqp, first_eight, peer_open, begin, attach, Wall}

pub wall : Wall
unfolding out amqp first_eight peer_open begin attach require and_then big_endian_from big_endian bytes_of starts_with room_for laid is_protocol_id protocol_id starts_with_all header has_id is_amqp100 protocol received header_bytes plus followed_by times codes kind_in kind_of bytes number_in boolean_end variable_end paired_in opening items compound_end body after_code level run value_end fields_in fields_of number_of sized list_at descriptor described split error_shape is_error has_type fits fit fields_by rows_for performative_by performative number_or remote_channel start_of condition_at condition frame body_in content read_frame uint ushort text_header text list_header joined trimmed composite_header composite frame_header frame_bytes limited idle_field open_fields error_field
wall = (refl, refl, refl, refl, refl, refl, refl, refl, refl, refl, refl, refl)
