-- Frames of a session on both sides of the freeing of its channel: the order End, the peer's End, free, and what a late frame does otherwise. Computed from the definitions.
-- Assumes nothing.
use mathlib.Core.Path.{◌≡◌, refl}
use mathlib.Core.List.{List, [], ◌∷◌}
use Rattle.std.specs.Prelude.{None, Some}
use Prim.Native.Nat.{ℕ}
use lib.ListN.{length}
use Rattle.octets.specs.Verdict.{refuse, accept, require, and_then}
use Rattle.octets.specs.Octets.{big_endian_from, big_endian, bytes_of, starts_with}
use Rattle.octets.specs.Output.{room_for, laid}
use Rattle.text.specs.Ascii.{ascii}
use Rattle.text.specs.Utf8.{characters as utf8Characters, in_range, starts, any, utf8_within, utf8}
use Rattle.protocol_header.specs.Header.{is_protocol_id, protocol_id, starts_with_all, header as header_of, has_id, is_amqp100, protocol, received, header_bytes}
use Rattle.values.specs.Value.{plus, followed_by, times, codes, kind_in, kind_of, bytes as bytes_at, number_in, boolean_end, variable_end, paired_in, opening, items, compound_end, body, after_code, level, run as run_of, value_end}
use Rattle.performatives.specs.Fields.{fields_in, fields_of}
use Rattle.performatives.specs.Performative.{descriptor, performative_by, fields_by, number_of, sized, list_at, described, split, error_shape, is_error, has_type, fits, fit, rows_for, performative, number_or, remote_channel, start_of, condition_at, condition}
use Rattle.frame_decoder.specs.Frame.{frame, body_in, content, read_frame, session_performative, session_frame, frames_up_to, session_frames}
use Rattle.serializer.specs.Written.{uint, ushort, text_header, text, list_header, joined, trimmed, composite_header, composite}
use Rattle.frame_encoder.specs.Frames.{frame_header, frame_bytes, limited, idle_field, open_fields, error_ok, description_field, error_fields, error_field}
use Rattle.session_frame.specs.Session.{text_of, shortest, written_as, written_fields, performative_written, session_bytes}
use Rattle.connection_model.specs.Connection.{listener, wrote, channel, forward, freed}
use Rattle.engine_model.specs.Texts.{not_found_condition}
use Rattle.engine_model.specs.Engine.{not_found, awaiting, Engine, fresh, Event, send_header, receive_header, send_open, incoming, allocate, deallocate, outgoing, seen_in, run}
use Rattle.engine_model.proofs.Worked.{settings, out, error_close, end_on0, amqp, peer_open, begin, transfer, replies_of, goes_on}

-- a listener with a session that its peer began on channel 5, with the handle 77 on channel 0
with_session : Engine
with_session = run listener settings fresh (receive_header amqp ∷ send_header out ∷ incoming peer_open 0 [] out ∷ send_open out ∷ incoming begin 77 [] out ∷ [])

end_on5 : List ℕ
end_on5 = 0 ∷ 0 ∷ 0 ∷ 0x0C ∷ 2 ∷ 0 ∷ 0 ∷ 5 ∷ 0 ∷ 0x53 ∷ 0x17 ∷ 0x45 ∷ []

-- its End goes out, a Transfer that was on its way reaches it, the peer's End comes, and then its channel is freed
in_order :
    replies_of (seen_in listener settings with_session (outgoing end_on0 out ∷ incoming transfer 78 [] out ∷ incoming end_on5 78 [] out ∷ deallocate 0 ∷ []))
    ≡ goes_on 0 12 (wrote 12) ∷ goes_on 17 0 (forward 17 20 77 8 9) ∷ goes_on 12 0 (forward 12 23 77 8 4) ∷ goes_on 0 0 (freed 77) ∷ []
unfolding settings out with_session amqp peer_open begin transfer end_on0 end_on5 require and_then room_for big_endian_from big_endian bytes_of starts_with ascii utf8Characters in_range starts any utf8_within utf8 plus followed_by times codes kind_in kind_of bytes_at number_in boolean_end variable_end paired_in opening items compound_end body after_code level run_of value_end fields_in fields_of number_of sized list_at described split error_shape is_error has_type fits fit rows_for performative number_or remote_channel start_of condition_at condition descriptor performative_by fields_by frame body_in content read_frame session_performative session_frame frames_up_to session_frames uint ushort text_header text list_header joined trimmed composite_header composite frame_header frame_bytes limited error_ok description_field error_fields error_field text_of shortest written_as written_fields performative_written session_bytes is_protocol_id protocol_id starts_with_all header_of has_id is_amqp100 protocol received header_bytes idle_field open_fields laid
in_order = refl

-- its channel is freed before the peer's End, and given to a session with the handle 79
early : List Event
early = outgoing end_on0 out ∷ deallocate 0 ∷ allocate 79 ∷ incoming transfer 78 [] out ∷ []

-- the Transfer reaches neither 77 nor 79: it is 24, and a Close tells the peer
freed_early :
    replies_of (seen_in listener settings with_session early)
    ≡ goes_on 0 12 (wrote 12) ∷ goes_on 0 0 (freed 77) ∷ goes_on 0 0 (channel 0)
    ∷ accept (record { ended = None; consumed = 17; written = length (error_close not_found_condition None); inner = Some (refuse 24) }) ∷ []
unfolding settings out with_session early error_close amqp peer_open begin transfer end_on0 require and_then room_for big_endian_from big_endian bytes_of starts_with ascii utf8Characters in_range starts any utf8_within utf8 plus followed_by times codes kind_in kind_of bytes_at number_in boolean_end variable_end paired_in opening items compound_end body after_code level run_of value_end fields_in fields_of number_of sized list_at described split error_shape is_error has_type fits fit rows_for performative number_or remote_channel start_of condition_at condition descriptor performative_by fields_by frame body_in content read_frame session_performative session_frame frames_up_to session_frames uint ushort text_header text list_header joined trimmed composite_header composite frame_header frame_bytes limited error_ok description_field error_fields error_field text_of shortest written_as written_fields performative_written session_bytes is_protocol_id protocol_id starts_with_all header_of has_id is_amqp100 protocol received header_bytes idle_field open_fields laid
freed_early = refl

awaits_close : (run listener settings with_session early).phase ≡ awaiting not_found
unfolding settings out with_session early error_close amqp peer_open begin transfer end_on0 require and_then room_for big_endian_from big_endian bytes_of starts_with ascii utf8Characters in_range starts any utf8_within utf8 plus followed_by times codes kind_in kind_of bytes_at number_in boolean_end variable_end paired_in opening items compound_end body after_code level run_of value_end fields_in fields_of number_of sized list_at described split error_shape is_error has_type fits fit rows_for performative number_or remote_channel start_of condition_at condition descriptor performative_by fields_by frame body_in content read_frame session_performative session_frame frames_up_to session_frames uint ushort text_header text list_header joined trimmed composite_header composite frame_header frame_bytes limited error_ok description_field error_fields error_field text_of shortest written_as written_fields performative_written session_bytes is_protocol_id protocol_id starts_with_all header_of has_id is_amqp100 protocol received header_bytes idle_field open_fields laid
awaits_close = refl
