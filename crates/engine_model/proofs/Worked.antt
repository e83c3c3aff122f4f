-- The engine's error path, end of input and a Close that is read, state by state, as tables; a worked list of events; and events that lead to each phase in each state that goes with it. All computed from the definitions.
-- Assumes nothing.
use mathlib.Core.Path.{◌≡◌, refl}
use mathlib.Core.Bool.{true, false, cond}
use mathlib.Core.List.{List, [], ◌∷◌, ◌++◌}
use Rattle.std.specs.Prelude.{Option, None, Some}
use Prim.Native.Nat.{ℕ}
use lib.ListN.{take, replicate}
use Rattle.octets.specs.Verdict.{Verdict, refuse, accept, require, and_then}
use Rattle.octets.specs.Octets.{big_endian_from, big_endian, bytes_of, starts_with}
use Rattle.octets.specs.Output.{room_for, laid}
use Rattle.text.specs.Ascii.{ascii}
use Rattle.text.specs.Utf8.{characters as utf8Characters, in_range, starts, any, utf8_within, utf8}
use Rattle.protocol_header.specs.Header.{is_protocol_id, protocol_id, starts_with_all, header as header_of, has_id, is_amqp100, protocol, received, header_bytes}
use Rattle.values.specs.Value.{plus, followed_by, times, codes, kind_in, kind_of, bytes as bytes_at, number_in, boolean_end, variable_end, paired_in, opening, items, compound_end, body, after_code, level, run as run_of, value_end}
use Rattle.performatives.specs.Fields.{fields_in, fields_of}
use Rattle.performatives.specs.Performative.{descriptor, performative_by, fields_by, number_of, sized, list_at, described, split, error_shape, is_error, has_type, fits, fit, rows_for, performative, number_or, remote_channel, start_of, condition_at, condition}
use Rattle.frame_decoder.specs.Frame.{frame, body_in, content, read_frame, session_performative, session_frame, frames_up_to, session_frames}
use Rattle.serializer.specs.Written.{uint, ushort, text_header, text, list_header, joined, trimmed, composite_header, composite}
use Rattle.frame_encoder.specs.Frames.{Settings, ErrorText, frame_header, frame_bytes, limited, idle_field, open_fields, error_ok, description_field, error_fields, error_field, close_body}
use Rattle.session_frame.specs.Session.{text_of, shortest, written_as, written_fields, performative_written, session_bytes}
use Rattle.connection_state.specs.States.{State, Start, HeaderReceived, HeaderSent, HeaderExchange, OpenPipe, OpenClosePipe, OpenReceived, OpenSent, ClosePipe, Opened, CloseReceived, CloseSent, Discarding, End, is}
use Rattle.connection_model.specs.Connection as M
use Rattle.connection_model.specs.Connection.{Role, dialler, listener, Answer, wrote, header, opened, closed, forward, began}
use Rattle.engine_model.specs.Texts.{illegal_state_condition, not_found_condition, not_implemented_condition, no_session, no_outgoing_channel, no_remote_session}
use Rattle.engine_model.specs.Engine.{Outcome, fine, transport_error, illegal_state, not_found, not_implemented, remote_closed, remote_closed_with_error, Phase, running, awaiting, stopped, Engine, fresh, Event, send_header, receive_header, send_open, incoming, close_order, allocate, deallocate, outgoing, tick, end_of_input, not_delivered, Reply, Result, judge, Seen, seen_in, run}
use Rattle.engine_model.specs.Phases.{goes_with}

-- ---- tables

-- a state; the phase and the state where an event leaves it, and what it wrote
data Row : Type 0 where
  ◌∶◌at◌writes◌ : State → Phase → State → List ℕ → Row
  ◌refuses◌ : State → ℕ → Row

infix 5 ◌∶◌at◌writes◌ ◌refuses◌
abbrev row_of : State → Verdict Result → Row
row_of x (refuse k) = x refuses k
row_of x (accept r) = x ∶ r.lands.phase at r.lands.connection.state writes r.lands.bytes

abbrev rows : (State → Verdict Result) → List State → List Row
rows f [] = []
rows f (x ∷ xs) = row_of x (f x) ∷ rows f xs

-- by what the error path does in them
abbrev states : List State
states =
    Start ∷ HeaderReceived ∷ HeaderSent ∷ HeaderExchange ∷ Opened ∷ OpenSent ∷ OpenPipe ∷ OpenReceived ∷ OpenClosePipe ∷ CloseReceived ∷ ClosePipe ∷ CloseSent
    ∷ Discarding ∷ End ∷ []

unfoldable pub settings : Settings
settings = record { container_id = 0x70 ∷ 0x31 ∷ []; max_frame_size = 4096; channel_max = 7; idle_time_out = None }

unfoldable pub out : List ℕ
out = replicate 32768 0

abbrev in_state : Phase → State → Engine
in_state p x = record { phase = p; connection = M.apply settings (M.go x) M.fresh }

-- what an event comes to in each state
abbrev table : Role → Phase → Event → List Row
table role p event = rows (λ x. judge role settings (in_state p x) event) states

-- ---- the error path

-- the Close that tells of an error
unfoldable pub error_close : List ℕ → Option (List ℕ) → List ℕ
error_close c d = frame_bytes 0 (close_body (Some (record { condition = c; description = d })))

-- a frame that was not delivered: amqp:not-found, "Session is not found"
not_found_close : List ℕ
not_found_close = error_close not_found_condition (Some no_session)

illegal_close : List ℕ
illegal_close = error_close illegal_state_condition None

error_path :
    table listener running (not_delivered false out)
    ≡ (Start ∶ stopped illegal_state at Start writes [])
    ∷ (HeaderReceived ∶ stopped illegal_state at HeaderReceived writes [])
    ∷ (HeaderSent ∶ stopped illegal_state at HeaderSent writes [])
    ∷ (HeaderExchange ∶ stopped illegal_state at HeaderExchange writes [])
    ∷ (Opened ∶ awaiting not_found at Discarding writes not_found_close)
    ∷ (OpenSent ∶ awaiting not_found at Discarding writes not_found_close)
    ∷ (OpenPipe ∶ awaiting not_found at Discarding writes not_found_close)
    ∷ (OpenReceived ∶ stopped illegal_state at OpenReceived writes [])
    ∷ (OpenClosePipe ∶ stopped illegal_state at OpenClosePipe writes [])
    ∷ (CloseReceived ∶ stopped not_found at End writes not_found_close)
    ∷ (ClosePipe ∶ awaiting not_found at ClosePipe writes [])
    ∷ (CloseSent ∶ awaiting not_found at CloseSent writes [])
    ∷ (Discarding ∶ awaiting not_found at Discarding writes [])
    ∷ (End ∶ stopped not_found at End writes [])
    ∷ []
unfolding settings out not_found_close error_close require and_then room_for bytes_of starts_with ascii utf8Characters in_range starts any utf8_within utf8 text_header text list_header joined trimmed composite_header composite frame_header frame_bytes limited error_ok description_field error_fields error_field
error_path = refl

-- that Close, byte by byte: amqp:not-found, Session is not found
not_found_close_lem :
    not_found_close
    ≡ 0x00 ∷ 0x00 ∷ 0x00 ∷ 0x3A ∷ 0x02 ∷ 0x00 ∷ 0x00 ∷ 0x00 ∷ 0x00 ∷ 0x53 ∷ 0x18 ∷ 0xC0 ∷ 0x2D ∷ 0x01 ∷ 0x00 ∷ 0x53 ∷ 0x1D ∷ 0xC0 ∷ 0x27 ∷ 0x02
    ∷ 0xA3 ∷ 0x0E ∷ 0x61 ∷ 0x6D ∷ 0x71 ∷ 0x70 ∷ 0x3A ∷ 0x6E ∷ 0x6F ∷ 0x74 ∷ 0x2D ∷ 0x66 ∷ 0x6F ∷ 0x75 ∷ 0x6E ∷ 0x64
    ∷ 0xA1 ∷ 0x14 ∷ 0x53 ∷ 0x65 ∷ 0x73 ∷ 0x73 ∷ 0x69 ∷ 0x6F ∷ 0x6E ∷ 0x20 ∷ 0x69 ∷ 0x73 ∷ 0x20 ∷ 0x6E ∷ 0x6F ∷ 0x74 ∷ 0x20 ∷ 0x66 ∷ 0x6F ∷ 0x75 ∷ 0x6E ∷ 0x64
    ∷ []
unfolding not_found_close error_close bytes_of starts_with text_header text list_header joined trimmed composite_header composite frame_header frame_bytes description_field error_fields error_field
not_found_close_lem = refl

-- ---- end of input

-- ClosePipe, Discarding, End: fine. Elsewhere amqp:illegal-state, and nothing is awaited
input_ends_lem :
    table dialler running (end_of_input out)
    ≡ (Start ∶ stopped illegal_state at Start writes [])
    ∷ (HeaderReceived ∶ stopped illegal_state at HeaderReceived writes [])
    ∷ (HeaderSent ∶ stopped illegal_state at HeaderSent writes [])
    ∷ (HeaderExchange ∶ stopped illegal_state at HeaderExchange writes [])
    ∷ (Opened ∶ stopped transport_error at Discarding writes illegal_close)
    ∷ (OpenSent ∶ stopped transport_error at Discarding writes illegal_close)
    ∷ (OpenPipe ∶ stopped transport_error at Discarding writes illegal_close)
    ∷ (OpenReceived ∶ stopped illegal_state at OpenReceived writes [])
    ∷ (OpenClosePipe ∶ stopped illegal_state at OpenClosePipe writes [])
    ∷ (CloseReceived ∶ stopped illegal_state at End writes illegal_close)
    ∷ (ClosePipe ∶ stopped fine at ClosePipe writes [])
    ∷ (CloseSent ∶ stopped transport_error at CloseSent writes [])
    ∷ (Discarding ∶ stopped fine at Discarding writes [])
    ∷ (End ∶ stopped fine at End writes [])
    ∷ []
unfolding settings out illegal_close error_close require and_then room_for bytes_of starts_with ascii utf8Characters in_range starts any utf8_within utf8 text_header text list_header joined trimmed composite_header composite frame_header frame_bytes limited error_ok description_field error_fields error_field
input_ends_lem = refl

abbrev all : Phase → List State → List Row
all p [] = []
all p (x ∷ xs) = (x ∶ p at x writes []) ∷ all p xs

-- while the peer's Close is awaited: a transport error, in every state
input_ends_awaiting : table dialler (awaiting not_found) (end_of_input out) ≡ all (stopped transport_error) states
unfolding settings out require room_for
input_ends_awaiting = refl

-- ---- a Close is read

close : List ℕ
close = 0 ∷ 0 ∷ 0 ∷ 0x0C ∷ 2 ∷ 0 ∷ 0 ∷ 0 ∷ 0 ∷ 0x53 ∷ 0x18 ∷ 0x45 ∷ []

-- with an error whose condition is x
close_with_error : List ℕ
close_with_error = 0 ∷ 0 ∷ 0 ∷ 0x17 ∷ 2 ∷ 0 ∷ 0 ∷ 0 ∷ 0 ∷ 0x53 ∷ 0x18 ∷ 0xC0 ∷ 10 ∷ 1 ∷ 0 ∷ 0x53 ∷ 0x1D ∷ 0xC0 ∷ 4 ∷ 1 ∷ 0xA3 ∷ 1 ∷ 0x78 ∷ []

-- an End on channel 0, that waits to be sent
unfoldable pub end_on0 : List ℕ
end_on0 = 0 ∷ 0 ∷ 0 ∷ 0x0C ∷ 2 ∷ 0 ∷ 0 ∷ 0 ∷ 0 ∷ 0x53 ∷ 0x17 ∷ 0x45 ∷ []

-- where it leaves CloseReceived behind, the waiting frame goes out, then a Close without error
close_read_lem :
    table listener running (incoming close 0 end_on0 out)
    ≡ (Start ∶ stopped illegal_state at Start writes [])
    ∷ (HeaderReceived ∶ stopped illegal_state at HeaderReceived writes [])
    ∷ (HeaderSent ∶ stopped illegal_state at HeaderSent writes [])
    ∷ (HeaderExchange ∶ stopped illegal_state at HeaderExchange writes [])
    ∷ (Opened ∶ stopped remote_closed at End writes (end_on0 ++ close))
    ∷ (OpenSent ∶ stopped remote_closed at End writes (end_on0 ++ close))
    ∷ (OpenPipe ∶ stopped remote_closed at End writes (end_on0 ++ close))
    ∷ (OpenReceived ∶ stopped remote_closed at End writes (end_on0 ++ close))
    ∷ (OpenClosePipe ∶ stopped remote_closed at End writes (end_on0 ++ close))
    ∷ (CloseReceived ∶ stopped illegal_state at End writes (end_on0 ++ close))
    ∷ (ClosePipe ∶ awaiting illegal_state at ClosePipe writes [])
    ∷ (CloseSent ∶ stopped fine at End writes [])
    ∷ (Discarding ∶ stopped fine at End writes [])
    ∷ (End ∶ stopped illegal_state at End writes [])
    ∷ []
unfolding settings out close end_on0 require and_then room_for big_endian_from big_endian bytes_of starts_with ascii utf8Characters in_range starts any utf8_within utf8 plus followed_by times codes kind_in kind_of bytes_at number_in boolean_end variable_end paired_in opening items compound_end body after_code level run_of value_end fields_in fields_of number_of sized list_at described split error_shape is_error has_type fits fit rows_for performative number_or remote_channel start_of condition_at condition descriptor performative_by fields_by frame body_in content read_frame session_performative session_frame frames_up_to session_frames uint ushort text_header text list_header joined trimmed composite_header composite frame_header frame_bytes limited error_ok description_field error_fields error_field text_of shortest written_as written_fields performative_written session_bytes
close_read_lem = refl

close_with_error_read :
    table dialler running (incoming close_with_error 0 [] out)
    ≡ (Start ∶ stopped illegal_state at Start writes [])
    ∷ (HeaderReceived ∶ stopped illegal_state at HeaderReceived writes [])
    ∷ (HeaderSent ∶ stopped illegal_state at HeaderSent writes [])
    ∷ (HeaderExchange ∶ stopped illegal_state at HeaderExchange writes [])
    ∷ (Opened ∶ stopped remote_closed_with_error at End writes close)
    ∷ (OpenSent ∶ stopped remote_closed_with_error at End writes close)
    ∷ (OpenPipe ∶ stopped remote_closed_with_error at End writes close)
    ∷ (OpenReceived ∶ stopped remote_closed_with_error at End writes close)
    ∷ (OpenClosePipe ∶ stopped remote_closed_with_error at End writes close)
    ∷ (CloseReceived ∶ stopped illegal_state at End writes close)
    ∷ (ClosePipe ∶ awaiting illegal_state at ClosePipe writes [])
    ∷ (CloseSent ∶ stopped remote_closed_with_error at End writes [])
    ∷ (Discarding ∶ stopped remote_closed_with_error at End writes [])
    ∷ (End ∶ stopped illegal_state at End writes [])
    ∷ []
unfolding settings out close close_with_error require and_then room_for big_endian_from big_endian bytes_of starts_with ascii utf8Characters in_range starts any utf8_within utf8 plus followed_by times codes kind_in kind_of bytes_at number_in boolean_end variable_end paired_in opening items compound_end body after_code level run_of value_end fields_in fields_of number_of sized list_at described split error_shape is_error has_type fits fit rows_for performative number_or remote_channel start_of condition_at condition descriptor performative_by fields_by frame body_in content read_frame session_performative session_frame frames_up_to session_frames uint ushort text_header text list_header joined trimmed composite_header composite frame_header frame_bytes limited error_ok description_field error_fields error_field text_of shortest written_as written_fields performative_written session_bytes
close_with_error_read = refl

-- while awaited: it is the connection's read of a Close, and writes nothing. ClosePipe, CloseSent and Discarding are the states in which a Close is awaited
close_read_awaiting :
    table listener (awaiting not_found) (incoming close 0 end_on0 out)
    ≡ (Start ∶ stopped illegal_state at Start writes [])
    ∷ (HeaderReceived ∶ stopped illegal_state at HeaderReceived writes [])
    ∷ (HeaderSent ∶ stopped illegal_state at HeaderSent writes [])
    ∷ (HeaderExchange ∶ stopped illegal_state at HeaderExchange writes [])
    ∷ (Opened ∶ stopped remote_closed at CloseReceived writes [])
    ∷ (OpenSent ∶ stopped remote_closed at CloseReceived writes [])
    ∷ (OpenPipe ∶ stopped remote_closed at CloseReceived writes [])
    ∷ (OpenReceived ∶ stopped remote_closed at CloseReceived writes [])
    ∷ (OpenClosePipe ∶ stopped remote_closed at CloseReceived writes [])
    ∷ (CloseReceived ∶ stopped illegal_state at CloseReceived writes [])
    ∷ (ClosePipe ∶ stopped illegal_state at ClosePipe writes [])
    ∷ (CloseSent ∶ stopped not_found at End writes [])
    ∷ (Discarding ∶ stopped not_found at End writes [])
    ∷ (End ∶ stopped illegal_state at End writes [])
    ∷ []
unfolding settings out close end_on0 require and_then room_for big_endian_from big_endian bytes_of starts_with ascii utf8Characters in_range starts any utf8_within utf8 plus followed_by times codes kind_in kind_of bytes_at number_in boolean_end variable_end paired_in opening items compound_end body after_code level run_of value_end fields_in fields_of number_of sized list_at described split error_shape is_error has_type fits fit rows_for performative number_or remote_channel start_of condition_at condition descriptor performative_by fields_by frame body_in content read_frame session_performative session_frame frames_up_to session_frames uint ushort text_header text list_header joined trimmed composite_header composite frame_header frame_bytes limited error_ok description_field error_fields error_field text_of shortest written_as written_fields performative_written session_bytes
close_read_awaiting = refl

-- a Close with an error, and another frame: ignored in Discarding, elsewhere judged as ever
abbrev awaited : Event → List Row
awaited event = rows (λ x. judge listener settings (in_state (awaiting not_found) x) event) (ClosePipe ∷ CloseSent ∷ Discarding ∷ [])

close_with_error_awaited :
    awaited (incoming close_with_error 0 [] out)
    ≡ (ClosePipe ∶ stopped illegal_state at ClosePipe writes [])
    ∷ (CloseSent ∶ stopped remote_closed_with_error at End writes [])
    ∷ (Discarding ∶ stopped remote_closed_with_error at End writes [])
    ∷ []
unfolding settings out close_with_error require and_then room_for big_endian_from big_endian bytes_of starts_with ascii utf8Characters in_range starts any utf8_within utf8 plus followed_by times codes kind_in kind_of bytes_at number_in boolean_end variable_end paired_in opening items compound_end body after_code level run_of value_end fields_in fields_of number_of sized list_at described split error_shape is_error has_type fits fit rows_for performative number_or remote_channel start_of condition_at condition descriptor performative_by fields_by frame body_in content read_frame session_performative session_frame frames_up_to session_frames uint ushort text_header text list_header joined trimmed composite_header composite frame_header frame_bytes limited error_ok description_field error_fields error_field text_of shortest written_as written_fields performative_written session_bytes
close_with_error_awaited = refl

other_frame_awaited :
    awaited (incoming end_on0 0 [] out)
    ≡ (ClosePipe ∶ stopped illegal_state at ClosePipe writes [])
    ∷ (CloseSent ∶ stopped illegal_state at CloseSent writes [])
    ∷ (Discarding ∶ awaiting not_found at Discarding writes [])
    ∷ []
unfolding settings out end_on0 require and_then room_for big_endian_from big_endian bytes_of starts_with ascii utf8Characters in_range starts any utf8_within utf8 plus followed_by times codes kind_in kind_of bytes_at number_in boolean_end variable_end paired_in opening items compound_end body after_code level run_of value_end fields_in fields_of number_of sized list_at described split error_shape is_error has_type fits fit rows_for performative number_or remote_channel start_of condition_at condition descriptor performative_by fields_by frame body_in content read_frame session_performative session_frame frames_up_to session_frames uint ushort text_header text list_header joined trimmed composite_header composite frame_header frame_bytes limited error_ok description_field error_fields error_field text_of shortest written_as written_fields performative_written session_bytes
other_frame_awaited = refl

-- ---- frames

unfoldable pub amqp : List ℕ
amqp = 0x41 ∷ 0x4D ∷ 0x51 ∷ 0x50 ∷ 0x00 ∷ 0x01 ∷ 0x00 ∷ 0x00 ∷ []

-- container-id h, channel-max 3
unfoldable pub peer_open : List ℕ
peer_open = 0 ∷ 0 ∷ 0 ∷ 0x16 ∷ 2 ∷ 0 ∷ 0 ∷ 0 ∷ 0 ∷ 0x53 ∷ 0x10 ∷ 0xC0 ∷ 9 ∷ 4 ∷ 0xA1 ∷ 1 ∷ 0x68 ∷ 0x40 ∷ 0x40 ∷ 0x60 ∷ 0 ∷ 3 ∷ []

-- ours: container-id p1, max-frame-size 4096, channel-max 7
own_open : List ℕ
own_open =
    0 ∷ 0 ∷ 0 ∷ 0x1B ∷ 2 ∷ 0 ∷ 0 ∷ 0 ∷ 0 ∷ 0x53 ∷ 0x10 ∷ 0xC0 ∷ 0x0E ∷ 4 ∷ 0xA1 ∷ 2 ∷ 0x70 ∷ 0x31 ∷ 0x40 ∷ 0x70 ∷ 0 ∷ 0 ∷ 0x10 ∷ 0 ∷ 0x60 ∷ 0 ∷ 7 ∷ []

-- a Begin on channel 5 that begins a session
unfoldable pub begin : List ℕ
begin = 0 ∷ 0 ∷ 0 ∷ 0x12 ∷ 2 ∷ 0 ∷ 0 ∷ 5 ∷ 0 ∷ 0x53 ∷ 0x11 ∷ 0xC0 ∷ 5 ∷ 4 ∷ 0x40 ∷ 0x43 ∷ 0x43 ∷ 0x43 ∷ []

-- a Begin on channel 0 that answers it, and how it is written: handle-max written out
answer : List ℕ
answer = 0 ∷ 0 ∷ 0 ∷ 0x14 ∷ 2 ∷ 0 ∷ 0 ∷ 0 ∷ 0 ∷ 0x53 ∷ 0x11 ∷ 0xC0 ∷ 7 ∷ 4 ∷ 0x60 ∷ 0 ∷ 5 ∷ 0x43 ∷ 0x43 ∷ 0x43 ∷ []

answer_written : List ℕ
answer_written =
    0 ∷ 0 ∷ 0 ∷ 0x19 ∷ 2 ∷ 0 ∷ 0 ∷ 0 ∷ 0 ∷ 0x53 ∷ 0x11 ∷ 0xC0 ∷ 0x0C ∷ 5 ∷ 0x60 ∷ 0 ∷ 5 ∷ 0x43 ∷ 0x43 ∷ 0x43 ∷ 0x70 ∷ 0xFF ∷ 0xFF ∷ 0xFF ∷ 0xFF ∷ []

-- a Transfer on channel 5 with a payload of two bytes
unfoldable pub transfer : List ℕ
transfer = 0 ∷ 0 ∷ 0 ∷ 0x11 ∷ 2 ∷ 0 ∷ 0 ∷ 5 ∷ 0 ∷ 0x53 ∷ 0x14 ∷ 0xC0 ∷ 2 ∷ 1 ∷ 0x43 ∷ 1 ∷ 2 ∷ []

-- ---- each error in Opened, and the Close that tells of it

abbrev in_opened : Role → Event → Row
in_opened role event = row_of Opened (judge role settings (in_state running Opened) event)

-- a frame whose length is 7
short : List ℕ
short = 0 ∷ 0 ∷ 0 ∷ 7 ∷ 2 ∷ 0 ∷ 0 ∷ []

-- one over the reading limit
long : List ℕ
long = 0 ∷ 0 ∷ 2 ∷ 1 ∷ []

-- type 1
sasl : List ℕ
sasl = 0 ∷ 0 ∷ 0 ∷ 8 ∷ 2 ∷ 1 ∷ 0 ∷ 0 ∷ []

-- channel 8
beyond : List ℕ
beyond = 0 ∷ 0 ∷ 0 ∷ 8 ∷ 2 ∷ 0 ∷ 0 ∷ 8 ∷ []

-- a body that is no performative
malformed : List ℕ
malformed = 0 ∷ 0 ∷ 0 ∷ 9 ∷ 2 ∷ 0 ∷ 0 ∷ 0 ∷ 0xFF ∷ []

-- a Transfer of 515 bytes, with a writing limit of 512
oversized : List ℕ
oversized = (0 ∷ 0 ∷ 2 ∷ 3 ∷ 2 ∷ 0 ∷ 0 ∷ 0 ∷ 0 ∷ 0x53 ∷ 0x14 ∷ 0xC0 ∷ 2 ∷ 1 ∷ 0x43 ∷ []) ++ replicate 500 0

-- 3, 4, 5, 7, 6, 27; 20; 24; 25; and what was not delivered
errors_in_opened :
    in_opened dialler (incoming short 0 [] out) ∷ in_opened dialler (incoming long 0 [] out) ∷ in_opened dialler (incoming sasl 0 [] out) ∷ in_opened dialler (incoming beyond 0 [] out)
    ∷ in_opened dialler (incoming malformed 0 [] out) ∷ in_opened dialler (outgoing oversized out) ∷ in_opened dialler (incoming peer_open 0 [] out) ∷ in_opened dialler (incoming end_on0 0 [] out) ∷ in_opened dialler (incoming begin 0 [] out) ∷ in_opened listener (incoming begin 0 [] out)
    ∷ in_opened listener (outgoing answer out) ∷ in_opened listener (not_delivered true out) ∷ in_opened dialler (not_delivered true out) ∷ []
    ≡ (Opened ∶ stopped transport_error at Opened writes []) ∷ (Opened ∶ stopped transport_error at Opened writes []) ∷ (Opened ∶ stopped transport_error at Opened writes [])
    ∷ (Opened ∶ stopped transport_error at Opened writes []) ∷ (Opened ∶ stopped transport_error at Opened writes []) ∷ (Opened ∶ stopped transport_error at Opened writes [])
    ∷ (Opened ∶ awaiting illegal_state at Discarding writes illegal_close)
    ∷ (Opened ∶ awaiting not_found at Discarding writes error_close not_found_condition None)
    ∷ (Opened ∶ awaiting not_implemented at Discarding writes error_close not_implemented_condition (Some no_remote_session))
    ∷ (Opened ∶ awaiting not_implemented at Discarding writes error_close not_implemented_condition None)
    ∷ (Opened ∶ awaiting not_found at Discarding writes error_close not_found_condition (Some no_outgoing_channel))
    ∷ (Opened ∶ awaiting not_implemented at Discarding writes error_close not_implemented_condition None)
    ∷ (Opened ∶ awaiting not_found at Discarding writes not_found_close)
    ∷ []
unfolding settings out short long sasl beyond malformed oversized peer_open end_on0 begin answer illegal_close not_found_close error_close require and_then room_for big_endian_from big_endian bytes_of starts_with ascii utf8Characters in_range starts any utf8_within utf8 plus followed_by times codes kind_in kind_of bytes_at number_in boolean_end variable_end paired_in opening items compound_end body after_code level run_of value_end fields_in fields_of number_of sized list_at described split error_shape is_error has_type fits fit rows_for performative number_or remote_channel start_of condition_at condition descriptor performative_by fields_by frame body_in content read_frame session_performative session_frame frames_up_to session_frames uint ushort text_header text list_header joined trimmed composite_header composite frame_header frame_bytes limited error_ok description_field error_fields error_field text_of shortest written_as written_fields performative_written session_bytes
errors_in_opened = refl

abbrev consumed_by : Verdict Result → Verdict ℕ
consumed_by (refuse k) = refuse k
consumed_by (accept r) = accept r.consumed

abbrev consumed_in_opened : List (List ℕ) → List (Verdict ℕ)
consumed_in_opened [] = []
consumed_in_opened (s ∷ ss) = consumed_by (judge dialler settings (in_state running Opened) (incoming s 0 [] out)) ∷ consumed_in_opened ss

-- a frame is consumed by its length, with 3 and 4 by nothing
consumed_in_opened_lem :
    consumed_in_opened (short ∷ long ∷ sasl ∷ beyond ∷ malformed ∷ peer_open ∷ end_on0 ∷ begin ∷ []) ≡ accept 0 ∷ accept 0 ∷ accept 8 ∷ accept 8 ∷ accept 9 ∷ accept 22 ∷ accept 12 ∷ accept 18 ∷ []
unfolding settings out short long sasl beyond malformed peer_open end_on0 begin require and_then room_for big_endian_from big_endian bytes_of starts_with ascii utf8Characters in_range starts any utf8_within utf8 plus followed_by times codes kind_in kind_of bytes_at number_in boolean_end variable_end paired_in opening items compound_end body after_code level run_of value_end fields_in fields_of number_of sized list_at described split error_shape is_error has_type fits fit rows_for performative number_or remote_channel start_of condition_at condition descriptor performative_by fields_by frame body_in content read_frame session_performative session_frame frames_up_to session_frames uint ushort text_header text list_header joined trimmed composite_header composite frame_header frame_bytes limited error_ok description_field error_fields error_field text_of shortest written_as written_fields performative_written session_bytes
consumed_in_opened_lem = refl

-- ---- an event's own refusals

-- a condition that is not ASCII
not_ascii : ErrorText
not_ascii = record { condition = 0x80 ∷ []; description = None }

abbrev refusal_of : Verdict Result → Option ℕ
refusal_of (refuse k) = Some k
refusal_of (accept r) = None

abbrev refusals : Phase → List Event → List (Option ℕ)
refusals p [] = []
refusals p (event ∷ events) = refusal_of (judge listener settings (in_state p Opened) event) ∷ refusals p events

-- little room; a text; a waiting slice that is no frame; bytes missing; a read frame's length under 8, with such a slice waiting; a Close to be sent as a session's frame; channels
faulty : List Event
faulty =
    close_order (Some not_ascii) (0 ∷ []) [] ∷ close_order (Some not_ascii) (0 ∷ []) out ∷ close_order None (0 ∷ []) out ∷ incoming (0 ∷ []) 0 [] out
    ∷ incoming short 0 (0 ∷ []) out ∷ incoming short 0 [] out ∷ outgoing close out ∷ allocate 0 ∷ deallocate 0 ∷ []

-- while running: 9, 8, then those of the input, the waiting slice's before any error path; then those of allocate and deallocate
refused_running : refusals running faulty ≡ Some 9 ∷ Some 8 ∷ Some 1 ∷ Some 1 ∷ Some 1 ∷ None ∷ Some 6 ∷ Some 21 ∷ Some 26 ∷ []
unfolding settings out faulty not_ascii short close require and_then room_for big_endian_from big_endian bytes_of starts_with ascii utf8Characters in_range starts any utf8_within utf8 plus followed_by times codes kind_in kind_of bytes_at number_in boolean_end variable_end paired_in opening items compound_end body after_code level run_of value_end fields_in fields_of number_of sized list_at described split error_shape is_error has_type fits fit rows_for performative number_or remote_channel start_of condition_at condition descriptor performative_by fields_by frame body_in content read_frame session_performative session_frame frames_up_to session_frames uint ushort text_header text list_header joined trimmed composite_header composite frame_header frame_bytes limited error_ok description_field error_fields error_field text_of shortest written_as written_fields performative_written session_bytes
refused_running = refl

-- once stopped: 9, 8, then 20
refused_stopped : refusals (stopped fine) faulty ≡ Some 9 ∷ Some 8 ∷ Some 20 ∷ Some 20 ∷ Some 20 ∷ Some 20 ∷ Some 20 ∷ Some 20 ∷ Some 20 ∷ []
unfolding settings out faulty not_ascii short close require and_then room_for big_endian_from big_endian bytes_of starts_with ascii utf8Characters in_range starts any utf8_within utf8 plus followed_by times codes kind_in kind_of bytes_at number_in boolean_end variable_end paired_in opening items compound_end body after_code level run_of value_end fields_in fields_of number_of sized list_at described split error_shape is_error has_type fits fit rows_for performative number_or remote_channel start_of condition_at condition descriptor performative_by fields_by frame body_in content read_frame session_performative session_frame frames_up_to session_frames uint ushort text_header text list_header joined trimmed composite_header composite frame_header frame_bytes limited error_ok description_field error_fields error_field text_of shortest written_as written_fields performative_written session_bytes
refused_stopped = refl

-- ---- a worked list of events

-- headers and Opens; the peer begins a session, for which 77 is lent, and sends a Transfer to it; a close order with one waiting frame; the peer's Close; a tick after that
life : List Event
life =
    receive_header amqp ∷ send_header out ∷ incoming peer_open 0 [] out ∷ send_open out ∷ incoming begin 77 [] out ∷ outgoing answer out ∷ incoming transfer 78 [] out
    ∷ close_order None end_on0 out ∷ tick out ∷ allocate 79 ∷ incoming close 80 [] out ∷ tick out ∷ []

abbrev pub replies_of : List Seen → List (Verdict Reply)
replies_of [] = []
replies_of (s ∷ ss) = s.reply ∷ replies_of ss

-- what stands in front of each output afterwards, as far as it was written
abbrev written_in : Verdict Reply → List ℕ → List ℕ
written_in (refuse k) o = []
written_in (accept r) o = take r.written o

abbrev outputs_of : List Seen → List (List ℕ)
outputs_of [] = []
outputs_of (s ∷ ss) = written_in s.reply s.output ∷ outputs_of ss

-- goes on, with the bytes consumed and written and what the connection answered
abbrev pub goes_on : ℕ → ℕ → Answer → Verdict Reply
goes_on c w a = accept (record { ended = None; consumed = c; written = w; inner = Some (accept a) })

abbrev ends : Outcome → ℕ → ℕ → Answer → Verdict Reply
ends o c w a = accept (record { ended = Some o; consumed = c; written = w; inner = Some (accept a) })

life_replies :
    replies_of (seen_in listener settings fresh life)
    ≡ goes_on 8 0 (header 8) ∷ goes_on 0 8 (wrote 8) ∷ goes_on 22 0 (opened 22 0) ∷ goes_on 0 27 (wrote 27) ∷ goes_on 18 0 (began 18 0 77 8 10) ∷ goes_on 0 25 (wrote 25)
    ∷ goes_on 17 0 (forward 17 20 77 8 9) ∷ goes_on 0 24 (wrote 12) ∷ goes_on 0 0 (wrote 0) ∷ refuse 22 ∷ ends fine 12 0 (closed 12 false) ∷ refuse 20 ∷ []
unfolding settings out life amqp peer_open begin answer transfer end_on0 close require and_then room_for big_endian_from big_endian bytes_of starts_with ascii utf8Characters in_range starts any utf8_within utf8 plus followed_by times codes kind_in kind_of bytes_at number_in boolean_end variable_end paired_in opening items compound_end body after_code level run_of value_end fields_in fields_of number_of sized list_at described split error_shape is_error has_type fits fit rows_for performative number_or remote_channel start_of condition_at condition descriptor performative_by fields_by frame body_in content read_frame session_performative session_frame frames_up_to session_frames uint ushort text_header text list_header joined trimmed composite_header composite frame_header frame_bytes limited error_ok description_field error_fields error_field text_of shortest written_as written_fields performative_written session_bytes is_protocol_id protocol_id starts_with_all header_of has_id is_amqp100 protocol received header_bytes idle_field open_fields laid
life_replies = refl

life_outputs :
    outputs_of (seen_in listener settings fresh life)
    ≡ [] ∷ amqp ∷ [] ∷ own_open ∷ [] ∷ answer_written ∷ [] ∷ (end_on0 ++ close) ∷ [] ∷ [] ∷ [] ∷ [] ∷ []
unfolding settings out life amqp peer_open own_open begin answer answer_written transfer end_on0 close require and_then room_for big_endian_from big_endian bytes_of starts_with ascii utf8Characters in_range starts any utf8_within utf8 plus followed_by times codes kind_in kind_of bytes_at number_in boolean_end variable_end paired_in opening items compound_end body after_code level run_of value_end fields_in fields_of number_of sized list_at described split error_shape is_error has_type fits fit rows_for performative number_or remote_channel start_of condition_at condition descriptor performative_by fields_by frame body_in content read_frame session_performative session_frame frames_up_to session_frames uint ushort text_header text list_header joined trimmed composite_header composite frame_header frame_bytes limited error_ok description_field error_fields error_field text_of shortest written_as written_fields performative_written session_bytes is_protocol_id protocol_id starts_with_all header_of has_id is_amqp100 protocol received header_bytes idle_field open_fields laid
life_outputs = refl

-- ---- each phase in each state that goes with it

-- the header of another protocol
tls : List ℕ
tls = 0x41 ∷ 0x4D ∷ 0x51 ∷ 0x50 ∷ 0x02 ∷ 0x01 ∷ 0x00 ∷ 0x00 ∷ []

to_opened : List Event
to_opened = send_header out ∷ receive_header amqp ∷ send_open out ∷ incoming peer_open 0 [] out ∷ []

-- events that lead a running engine to a state; to CloseReceived none do
abbrev lead_to : State → List Event
lead_to Start = []
lead_to HeaderReceived = receive_header amqp ∷ []
lead_to HeaderSent = send_header out ∷ []
lead_to HeaderExchange = send_header out ∷ receive_header amqp ∷ []
lead_to OpenPipe = send_header out ∷ send_open out ∷ []
lead_to OpenClosePipe = send_header out ∷ send_open out ∷ close_order None [] out ∷ []
lead_to OpenReceived = send_header out ∷ receive_header amqp ∷ incoming peer_open 0 [] out ∷ []
lead_to OpenSent = send_header out ∷ receive_header amqp ∷ send_open out ∷ []
lead_to ClosePipe = send_header out ∷ receive_header amqp ∷ send_open out ∷ close_order None [] out ∷ []
lead_to Opened = to_opened
lead_to CloseReceived = []
lead_to CloseSent = to_opened ++ (close_order None [] out ∷ [])
lead_to Discarding = to_opened ++ (close_order (Some (record { condition = []; description = None })) [] out ∷ [])
lead_to End = receive_header tls ∷ []

-- an event with an error that a Close tells of: an End that is sent where none may be, or what was not delivered
abbrev erring : Outcome → Event
erring fine = outgoing end_on0 out
erring transport_error = outgoing end_on0 out
erring illegal_state = outgoing end_on0 out
erring not_found = not_delivered false out
erring not_implemented = not_delivered true out
erring remote_closed = outgoing end_on0 out
erring remote_closed_with_error = outgoing end_on0 out

-- and on to a stop in a state: the input ends; a length of 7, or a waiting frame over the writing limit; the peer's Close, also after an error
abbrev stop_by : Outcome → State → List Event
stop_by fine x = lead_to x ++ (end_of_input out ∷ [])
stop_by transport_error x = cond (is CloseReceived x) (lead_to OpenSent ++ (incoming close 0 oversized out ∷ [])) (lead_to x ++ (incoming short 0 [] out ∷ []))
stop_by illegal_state x = lead_to x ++ (erring illegal_state ∷ incoming end_on0 0 [] out ∷ [])
stop_by not_found x = to_opened ++ (erring not_found ∷ incoming close 0 [] out ∷ [])
stop_by not_implemented x = to_opened ++ (erring not_implemented ∷ incoming close 0 [] out ∷ [])
stop_by remote_closed x = to_opened ++ (incoming close 0 [] out ∷ [])
stop_by remote_closed_with_error x = to_opened ++ (incoming close_with_error 0 [] out ∷ [])

abbrev lead_on : Phase → State → List Event
lead_on running x = lead_to x
lead_on (awaiting o) x = lead_to x ++ (erring o ∷ [])
lead_on (stopped o) x = stop_by o x

abbrev phases : List Phase
phases = running ∷ in_each (fine ∷ transport_error ∷ illegal_state ∷ not_found ∷ not_implemented ∷ remote_closed ∷ remote_closed_with_error ∷ [])
  where
    in_each : List Outcome → List Phase
    in_each [] = []
    in_each (o ∷ os) = awaiting o ∷ stopped o ∷ in_each os

abbrev found : Engine → Phase × State
found e = (e.phase, e.connection.state)

-- f of each phase with each state that goes with it
abbrev each_pair : (Phase → State → Phase × State) → List Phase → List (Phase × State)
each_pair f [] = []
each_pair f (p ∷ ps) = along states (each_pair f ps)
  where
    along : List State → List (Phase × State) → List (Phase × State)
    along [] rest = rest
    along (x ∷ xs) rest = cond (goes_with p x) (f p x ∷ along xs rest) (along xs rest)

each_met : each_pair (λ p x. found (run listener settings fresh (lead_on p x))) phases ≡ each_pair (λ p x. (p, x)) phases
unfolding settings out to_opened amqp tls peer_open end_on0 close close_with_error short oversized require and_then room_for big_endian_from big_endian bytes_of starts_with ascii utf8Characters in_range starts any utf8_within utf8 plus followed_by times codes kind_in kind_of bytes_at number_in boolean_end variable_end paired_in opening items compound_end body after_code level run_of value_end fields_in fields_of number_of sized list_at described split error_shape is_error has_type fits fit rows_for performative number_or remote_channel start_of condition_at condition descriptor performative_by fields_by frame body_in content read_frame session_performative session_frame frames_up_to session_frames uint ushort text_header text list_header joined trimmed composite_header composite frame_header frame_bytes limited error_ok description_field error_fields error_field text_of shortest written_as written_fields performative_written session_bytes is_protocol_id protocol_id starts_with_all header_of has_id is_amqp100 protocol received header_bytes idle_field open_fields laid
each_met = refl
