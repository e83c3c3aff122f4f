-- The rows of Part 2's table of states that differ from ours are those that specs/Part2.antt has, and no others.
-- Assumes nothing.
use mathlib.Core.Path.{◌≡◌, refl}
use mathlib.Core.Bool.{Bool, true, ◌&&◌}
use mathlib.Core.List.{List, [], ◌∷◌}
use Rattle.octets.specs.Verdict.{require, and_then}
use Rattle.octets.specs.Octets.{big_endian_from, big_endian, bytes_of, starts_with}
use Rattle.octets.specs.Output.{room_for}
use Rattle.text.specs.Ascii.{ascii}
use Rattle.protocol_header.specs.Header.{is_protocol_id, protocol_id, starts_with_all, header, has_id, is_amqp100, protocol, received, header_bytes}
use Rattle.values.specs.Value.{plus, followed_by, times, codes, kind_in, kind_of, bytes, number_in, boolean_end, variable_end, paired_in, opening, items, compound_end, body, after_code, level, run, value_end}
use Rattle.performatives.specs.Fields.{fields_in, fields_of}
use Rattle.performatives.specs.Performative.{number_of, sized, list_at, descriptor, described, split, error_shape, is_error, has_type, fits, fit, fields_by, rows_for, performative_by, performative, number_or, remote_channel, start_of, condition_at, condition}
use Rattle.frame_decoder.specs.Frame.{frame, body_in, content, read_frame, session_performative, session_frame}
use Rattle.serializer.specs.Written.{uint, ushort, text_header, text, list_header, joined, trimmed, composite_header, composite}
use Rattle.frame_encoder.specs.Frames.{frame_header, frame_bytes, limited, idle_field, open_fields, error_ok, description_field, error_fields, error_field}
use Rattle.session_frame.specs.Session.{shortest, written_as, written_fields, performative_written, session_bytes}
use Rattle.connection_state.specs.States.{Move, ◌⇒◌}
use Rattle.connection_model.specs.Part2.{Action, arrows, is_legal, room, differing, actions, differences}

-- the diagram draws only what the table has as legal
abbrev each_legal : Action → List Move → Bool
each_legal a [] = true
each_legal a ((x ⇒ y) ∷ moves) = is_legal a x && each_legal a moves

abbrev drawn_legal : List Action → Bool
drawn_legal [] = true
drawn_legal (a ∷ as') = each_legal a (arrows a) && drawn_legal as'

drawn_legal_lem : drawn_legal actions ≡ true
drawn_legal_lem = refl

pub part_2 : differing actions ≡ differences
unfolding room ascii require and_then big_endian_from big_endian bytes_of starts_with room_for is_protocol_id protocol_id starts_with_all header has_id is_amqp100 protocol received header_bytes plus followed_by times codes kind_in kind_of bytes number_in boolean_end variable_end paired_in opening items compound_end body after_code level run value_end fields_in fields_of number_of sized list_at descriptor described split error_shape is_error has_type fits fit fields_by rows_for performative_by performative number_or remote_channel start_of condition_at condition frame body_in content read_frame session_performative session_frame uint ushort text_header text list_header joined trimmed composite_header composite frame_header frame_bytes limited idle_field open_fields error_ok description_field error_fields error_field shortest written_as written_fields performative_written session_bytes
part_2 = refl
