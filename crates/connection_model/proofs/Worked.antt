-- Worked lists of calls, computed from the definitions.
-- Assumes nothing.
use mathlib.Core.Path.{◌≡◌, refl}
use mathlib.Core.Bool.{false}
use mathlib.Core.List.{List, [], ◌∷◌, ◌++◌}
use Rattle.std.specs.Prelude.{None, Some}
use Prim.Native.Nat.{ℕ}
use lib.ListN.{replicate}
use Rattle.octets.specs.Verdict.{Verdict, refuse, accept, require, and_then}
use Rattle.octets.specs.Octets.{big_endian_from, big_endian, bytes_of, starts_with}
use Rattle.octets.specs.Output.{room_for}
use Rattle.protocol_header.specs.Header.{is_protocol_id, protocol_id, starts_with_all, header as header_of, has_id, is_amqp100, protocol, received, header_bytes}
use Rattle.values.specs.Value.{plus, followed_by, times, codes, kind_in, kind_of, bytes as bytes_at, number_in, boolean_end, variable_end, paired_in, opening, items, compound_end, body, after_code, level, run as run_of, value_end}
use Rattle.performatives.specs.Fields.{fields_in, fields_of}
use Rattle.performatives.specs.Performative.{descriptor, performative_by, fields_by, number_of, sized, list_at, described, split, error_shape, is_error, has_type, fits, fit, rows_for, performative, number_or, remote_channel, start_of, condition_at, condition}
use Rattle.frame_decoder.specs.Frame.{frame, body_in, content, read_frame, session_performative, session_frame}
use Rattle.serializer.specs.Written.{uint, ushort, text_header, text, list_header, joined, trimmed, composite_header, composite}
use Rattle.frame_encoder.specs.Frames.{Settings, frame_header, frame_bytes, limited, idle_field, open_fields, error_field}
use Rattle.session_frame.specs.Session.{shortest, written_as, written_fields, performative_written, session_bytes}
use Rattle.channels.specs.Ties.{tie_of}
use Rattle.connection_model.specs.Connection.{dialler, listener, fresh, Call, send_header_to, receive_header_from, send_open_to, receive_frame, send_close_to, send_session_frame, allocate, deallocate, tick, Answer, wrote, stop, header, opened, closed, forward, channel, freed, Seen, run, seen_in}

abbrev answers_of : List Seen → List (Verdict Answer)
answers_of [] = []
answers_of (s ∷ ss) = s.answer ∷ answers_of ss

out : List ℕ
out = replicate 16384 0

amqp : List ℕ
amqp = 0x41 ∷ 0x4D ∷ 0x51 ∷ 0x50 ∷ 0x00 ∷ 0x01 ∷ 0x00 ∷ 0x00 ∷ []

settings : Settings
settings = record { container_id = 0x70 ∷ 0x31 ∷ []; max_frame_size = 4096; channel_max = 7; idle_time_out = None }

-- container-id h, channel-max 3
peer_open : List ℕ
peer_open = 0 ∷ 0 ∷ 0 ∷ 0x16 ∷ 2 ∷ 0 ∷ 0 ∷ 0 ∷ 0 ∷ 0x53 ∷ 0x10 ∷ 0xC0 ∷ 9 ∷ 4 ∷ 0xA1 ∷ 1 ∷ 0x68 ∷ 0x40 ∷ 0x40 ∷ 0x60 ∷ 0 ∷ 3 ∷ []

-- a Begin on channel 5 for the outgoing channel 2
begin_for2 : List ℕ
begin_for2 = 0 ∷ 0 ∷ 0 ∷ 0x14 ∷ 2 ∷ 0 ∷ 0 ∷ 5 ∷ 0 ∷ 0x53 ∷ 0x11 ∷ 0xC0 ∷ 7 ∷ 4 ∷ 0x60 ∷ 0 ∷ 2 ∷ 0x43 ∷ 0x43 ∷ 0x43 ∷ []

attach_on5 : List ℕ
attach_on5 = 0 ∷ 0 ∷ 0 ∷ 0x0C ∷ 2 ∷ 0 ∷ 0 ∷ 5 ∷ 0 ∷ 0x53 ∷ 0x12 ∷ 0x45 ∷ []

to_opened : List Call
to_opened = send_header_to out ∷ receive_header_from amqp ∷ send_open_to out ∷ receive_frame peer_open 0 ∷ []

-- local channel-max 7, the peer's 3: 0, 1, 2, 3, then 23; free 1, then 3: next 3, then 1
channels : List Call
channels = allocate 10 ∷ allocate 11 ∷ allocate 12 ∷ allocate 13 ∷ allocate 14 ∷ deallocate 1 ∷ deallocate 3 ∷ allocate 15 ∷ allocate 16 ∷ []

-- Begin on 5 for 2, free 2: Attach on 5 is 24, and then Begin for 2 is 24
late : List Call
late = receive_frame begin_for2 0 ∷ deallocate 2 ∷ receive_frame attach_on5 0 ∷ receive_frame begin_for2 0 ∷ []

whole_life :
    answers_of (seen_in dialler settings fresh (to_opened ++ (channels ++ late)))
    ≡ accept (wrote 8) ∷ accept (header 8) ∷ accept (wrote 27) ∷ accept (opened 22 0)
    ∷ accept (channel 0) ∷ accept (channel 1) ∷ accept (channel 2) ∷ accept (channel 3) ∷ refuse 23 ∷ accept (freed 11) ∷ accept (freed 13) ∷ accept (channel 3) ∷ accept (channel 1)
    ∷ accept (forward 20 17 12 8 12) ∷ accept (freed 12) ∷ refuse 24 ∷ refuse 24
    ∷ []
unfolding to_opened channels late settings amqp peer_open begin_for2 attach_on5 out require and_then big_endian_from big_endian bytes_of starts_with room_for is_protocol_id protocol_id starts_with_all header_of has_id is_amqp100 protocol received header_bytes plus followed_by times codes kind_in kind_of bytes_at number_in boolean_end variable_end paired_in opening items compound_end body after_code level run_of value_end fields_in fields_of number_of sized list_at described split error_shape is_error has_type fits fit rows_for performative number_or remote_channel start_of condition_at condition frame body_in content read_frame uint ushort text_header text list_header joined trimmed composite_header composite frame_header frame_bytes limited idle_field open_fields error_field descriptor performative_by fields_by
whole_life = refl

-- a Begin on channel 5 for the outgoing channel 0, an End on 5, a Close, and a header with id 1
begin_for0 : List ℕ
begin_for0 = 0 ∷ 0 ∷ 0 ∷ 0x14 ∷ 2 ∷ 0 ∷ 0 ∷ 5 ∷ 0 ∷ 0x53 ∷ 0x11 ∷ 0xC0 ∷ 7 ∷ 4 ∷ 0x60 ∷ 0 ∷ 0 ∷ 0x43 ∷ 0x43 ∷ 0x43 ∷ []

end_on5 : List ℕ
end_on5 = 0 ∷ 0 ∷ 0 ∷ 0x0C ∷ 2 ∷ 0 ∷ 0 ∷ 5 ∷ 0 ∷ 0x53 ∷ 0x17 ∷ 0x45 ∷ []

close : List ℕ
close = 0 ∷ 0 ∷ 0 ∷ 0x0C ∷ 2 ∷ 0 ∷ 0 ∷ 0 ∷ 0 ∷ 0x53 ∷ 0x18 ∷ 0x45 ∷ []

malformed : List ℕ
malformed = 0x41 ∷ 0x4D ∷ 0x51 ∷ 0x50 ∷ 0x01 ∷ 0x01 ∷ 0x00 ∷ 0x00 ∷ []

-- the case that the users fear: a session is ended, its channel number is given out a second time, and a late Begin for that number comes. Frames on its incoming
-- channel then reach the new session's handle, 20, and no longer the old one's, 10
late_begin :
    answers_of
    (seen_in dialler settings (run dialler settings fresh to_opened)
    (allocate 10 ∷ receive_frame begin_for0 0 ∷ receive_frame attach_on5 0 ∷ receive_frame end_on5 0 ∷ receive_frame attach_on5 0 ∷ deallocate 0 ∷ receive_frame begin_for0 0
    ∷ allocate 20 ∷ receive_frame attach_on5 0 ∷ receive_frame begin_for0 0 ∷ receive_frame attach_on5 0 ∷ receive_frame end_on5 0 ∷ []))
    ≡ accept (channel 0) ∷ accept (forward 20 17 10 8 12) ∷ accept (forward 12 18 10 8 4) ∷ accept (forward 12 23 10 8 4) ∷ refuse 24 ∷ accept (freed 10) ∷ refuse 24
    ∷ accept (channel 0) ∷ refuse 24 ∷ accept (forward 20 17 20 8 12) ∷ accept (forward 12 18 20 8 4) ∷ accept (forward 12 23 20 8 4) ∷ []
unfolding to_opened begin_for0 attach_on5 end_on5 settings amqp peer_open out require and_then big_endian_from big_endian bytes_of starts_with room_for is_protocol_id protocol_id starts_with_all header_of has_id is_amqp100 protocol received header_bytes plus followed_by times codes kind_in kind_of bytes_at number_in boolean_end variable_end paired_in opening items compound_end body after_code level run_of value_end fields_in fields_of number_of sized list_at described split error_shape is_error has_type fits fit rows_for performative number_or remote_channel start_of condition_at condition frame body_in content read_frame uint ushort text_header text list_header joined trimmed composite_header composite frame_header frame_bytes limited idle_field open_fields error_field descriptor performative_by fields_by
late_begin = refl

-- a malformed header leaves HeaderSent as it is; a Close is sent and read, a tick writes nothing in CloseSent and says stop in End
header_and_close :
    answers_of
    (seen_in dialler settings fresh
    (send_header_to out ∷ receive_header_from malformed ∷ receive_header_from amqp ∷ send_open_to out ∷ tick out ∷ receive_frame peer_open 0 ∷ send_close_to None out ∷ tick out
    ∷ allocate 1 ∷ receive_frame attach_on5 0 ∷ receive_frame close 0 ∷ tick out ∷ receive_frame close 0 ∷ []))
    ≡ accept (wrote 8) ∷ refuse 2 ∷ accept (header 8) ∷ accept (wrote 27) ∷ accept (wrote 8) ∷ accept (opened 22 0) ∷ accept (wrote 12) ∷ accept (wrote 0)
    ∷ refuse 22 ∷ refuse 20 ∷ accept (closed 12 false) ∷ accept stop ∷ refuse 20 ∷ []
unfolding malformed close attach_on5 settings amqp peer_open out require and_then big_endian_from big_endian bytes_of starts_with room_for is_protocol_id protocol_id starts_with_all header_of has_id is_amqp100 protocol received header_bytes plus followed_by times codes kind_in kind_of bytes_at number_in boolean_end variable_end paired_in opening items compound_end body after_code level run_of value_end fields_in fields_of number_of sized list_at described split error_shape is_error has_type fits fit rows_for performative number_or remote_channel start_of condition_at condition frame body_in content read_frame uint ushort text_header text list_header joined trimmed composite_header composite frame_header frame_bytes limited idle_field open_fields error_field descriptor performative_by fields_by
header_and_close = refl

-- ---- a tie goes with the channel through which it was made

-- a Begin on channel 5 for the outgoing channel 1
begin_for1 : List ℕ
begin_for1 = 0 ∷ 0 ∷ 0 ∷ 0x14 ∷ 2 ∷ 0 ∷ 0 ∷ 5 ∷ 0 ∷ 0x53 ∷ 0x11 ∷ 0xC0 ∷ 7 ∷ 4 ∷ 0x60 ∷ 0 ∷ 1 ∷ 0x43 ∷ 0x43 ∷ 0x43 ∷ []

-- two channels with one handle, 7: freeing one of them shows through which the tie was made
same_handle :
    (answers_of (seen_in dialler settings (run dialler settings fresh to_opened) (allocate 7 ∷ allocate 7 ∷ receive_frame begin_for0 0 ∷ deallocate 0 ∷ receive_frame attach_on5 0 ∷ []))
    ≡ accept (channel 0) ∷ accept (channel 1) ∷ accept (forward 20 17 7 8 12) ∷ accept (freed 7) ∷ refuse 24 ∷ [])
    × (answers_of (seen_in dialler settings (run dialler settings fresh to_opened) (allocate 7 ∷ allocate 7 ∷ receive_frame begin_for1 0 ∷ deallocate 0 ∷ receive_frame attach_on5 0 ∷ []))
    ≡ accept (channel 0) ∷ accept (channel 1) ∷ accept (forward 20 17 7 8 12) ∷ accept (freed 7) ∷ accept (forward 12 18 7 8 4) ∷ [])
unfolding to_opened begin_for0 begin_for1 attach_on5 settings amqp peer_open out require and_then big_endian_from big_endian bytes_of starts_with room_for is_protocol_id protocol_id starts_with_all header_of has_id is_amqp100 protocol received header_bytes plus followed_by times codes kind_in kind_of bytes_at number_in boolean_end variable_end paired_in opening items compound_end body after_code level run_of value_end fields_in fields_of number_of sized list_at described split error_shape is_error has_type fits fit rows_for performative number_or remote_channel start_of condition_at condition frame body_in content read_frame uint ushort text_header text list_header joined trimmed composite_header composite frame_header frame_bytes limited idle_field open_fields error_field descriptor performative_by fields_by
same_handle = (refl, refl)

-- a Begin that replaces a tie replaces its outgoing channel: the tie goes with 1 and not with 0
replaced :
    answers_of
    (seen_in dialler settings (run dialler settings fresh to_opened)
    (allocate 7 ∷ allocate 8 ∷ receive_frame begin_for0 0 ∷ receive_frame begin_for1 0 ∷ deallocate 0 ∷ receive_frame attach_on5 0 ∷ deallocate 1 ∷ receive_frame attach_on5 0 ∷ []))
    ≡ accept (channel 0) ∷ accept (channel 1) ∷ accept (forward 20 17 7 8 12) ∷ accept (forward 20 17 8 8 12) ∷ accept (freed 7) ∷ accept (forward 12 18 8 8 4) ∷ accept (freed 8) ∷ refuse 24 ∷ []
unfolding to_opened begin_for0 begin_for1 attach_on5 settings amqp peer_open out require and_then big_endian_from big_endian bytes_of starts_with room_for is_protocol_id protocol_id starts_with_all header_of has_id is_amqp100 protocol received header_bytes plus followed_by times codes kind_in kind_of bytes_at number_in boolean_end variable_end paired_in opening items compound_end body after_code level run_of value_end fields_in fields_of number_of sized list_at described split error_shape is_error has_type fits fit rows_for performative number_or remote_channel start_of condition_at condition frame body_in content read_frame uint ushort text_header text list_header joined trimmed composite_header composite frame_header frame_bytes limited idle_field open_fields error_field descriptor performative_by fields_by
replaced = refl

-- Begin on 5 for 0, free 0, and 0 is given anew: Attach on 5 is 24
given_anew :
    answers_of
    (seen_in dialler settings (run dialler settings fresh to_opened) (allocate 7 ∷ receive_frame begin_for0 0 ∷ deallocate 0 ∷ allocate 8 ∷ receive_frame attach_on5 0 ∷ []))
    ≡ accept (channel 0) ∷ accept (forward 20 17 7 8 12) ∷ accept (freed 7) ∷ accept (channel 0) ∷ refuse 24 ∷ []
unfolding to_opened begin_for0 attach_on5 settings amqp peer_open out require and_then big_endian_from big_endian bytes_of starts_with room_for is_protocol_id protocol_id starts_with_all header_of has_id is_amqp100 protocol received header_bytes plus followed_by times codes kind_in kind_of bytes_at number_in boolean_end variable_end paired_in opening items compound_end body after_code level run_of value_end fields_in fields_of number_of sized list_at described split error_shape is_error has_type fits fit rows_for performative number_or remote_channel start_of condition_at condition frame body_in content read_frame uint ushort text_header text list_header joined trimmed composite_header composite frame_header frame_bytes limited idle_field open_fields error_field descriptor performative_by fields_by
given_anew = refl

-- once the peer's Close was read no call tells of ties; those of a freed channel are dropped all the same
unseen :
    ((run dialler settings (run dialler settings fresh to_opened) (allocate 7 ∷ receive_frame begin_for0 0 ∷ receive_frame close 0 ∷ [])).ties 5 ≡ Some (tie_of 0 7))
    × ((run dialler settings (run dialler settings fresh to_opened) (allocate 7 ∷ receive_frame begin_for0 0 ∷ receive_frame close 0 ∷ deallocate 0 ∷ [])).ties 5 ≡ None)
unfolding to_opened begin_for0 close settings amqp peer_open out require and_then big_endian_from big_endian bytes_of starts_with room_for is_protocol_id protocol_id starts_with_all header_of has_id is_amqp100 protocol received header_bytes plus followed_by times codes kind_in kind_of bytes_at number_in boolean_end variable_end paired_in opening items compound_end body after_code level run_of value_end fields_in fields_of number_of sized list_at described split error_shape is_error has_type fits fit rows_for performative number_or remote_channel start_of condition_at condition frame body_in content read_frame uint ushort text_header text list_header joined trimmed composite_header composite frame_header frame_bytes limited idle_field open_fields error_field descriptor performative_by fields_by
unseen = (refl, refl)

-- a Begin that a listener sends on channel 0, for the incoming channel 5
begin_on0 : List ℕ
begin_on0 = 0 ∷ 0 ∷ 0 ∷ 0x14 ∷ 2 ∷ 0 ∷ 0 ∷ 0 ∷ 0 ∷ 0x53 ∷ 0x11 ∷ 0xC0 ∷ 7 ∷ 4 ∷ 0x60 ∷ 0 ∷ 5 ∷ 0x43 ∷ 0x43 ∷ 0x43 ∷ []

-- it ties 5 through 0
listener_begins :
    answers_of
    (seen_in listener settings (run listener settings fresh to_opened)
    (allocate 7 ∷ send_session_frame begin_on0 out ∷ receive_frame attach_on5 0 ∷ deallocate 0 ∷ receive_frame attach_on5 0 ∷ []))
    ≡ accept (channel 0) ∷ accept (wrote 25) ∷ accept (forward 12 18 7 8 4) ∷ accept (freed 7) ∷ refuse 24 ∷ []
unfolding to_opened begin_on0 session_performative session_frame shortest written_as written_fields performative_written session_bytes attach_on5 settings amqp peer_open out require and_then big_endian_from big_endian bytes_of starts_with room_for is_protocol_id protocol_id starts_with_all header_of has_id is_amqp100 protocol received header_bytes plus followed_by times codes kind_in kind_of bytes_at number_in boolean_end variable_end paired_in opening items compound_end body after_code level run_of value_end fields_in fields_of number_of sized list_at described split error_shape is_error has_type fits fit rows_for performative number_or remote_channel start_of condition_at condition frame body_in content read_frame uint ushort text_header text list_header joined trimmed composite_header composite frame_header frame_bytes limited idle_field open_fields error_field descriptor performative_by fields_by
listener_begins = refl
