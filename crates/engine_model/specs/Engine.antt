-- The engine: a connection in a phase, its events, and for each event what it answers, does and writes (document 01, "The engine's event").
-- What an event does to the connection is made of the connection's own calls. Each of them is lent the whole output; what they write stands one after the other.
-- Assumes nothing: these are definitions.
use Rattle.std.specs.Prelude.{Bool, true, false, cond, not, ◌&&◌, ◌||◌, List, [], ◌∷◌, ◌++◌, ℕ, zero, suc, length, drop, eqb, Option, None, Some}
use Rattle.octets.specs.Verdict.{Verdict, refuse, accept, require, and_then}
use Rattle.octets.specs.Output.{room_for, laid}
use Rattle.performatives.specs.Performative.{Performative}
use Rattle.frame_decoder.specs.Frame.{Frame, size_of, read_frame, session_frame, session_frames}
use Rattle.frame_encoder.specs.Frames.{Settings, ErrorText, close_ok}
use Rattle.connection_state.specs.States.{State, ClosePipe, CloseReceived, CloseSent, Discarding, End, is, is_one_of}
use Rattle.connection_model.specs.Connection as M
use Rattle.connection_model.specs.Connection.{Role, dialler, listener, Connection, Call, send_header_to, receive_header_from, send_open_to, receive_frame, send_close_to, send_session_frame, Answer, wrote, stop, header, other_protocol, nothing_to_do, opened, closed, forward, began, channel, freed, apply, decide, after, answered}
use Rattle.engine_model.specs.Texts.{illegal_state_condition, not_found_condition, not_implemented_condition, no_session, no_outgoing_channel, no_remote_session}

-- ---- what an engine holds

pub data Outcome : Type 0 where
  fine transport_error illegal_state not_found not_implemented remote_closed remote_closed_with_error : Outcome

-- while the peer's Close is awaited, the outcome to come is kept
pub data Phase : Type 0 where
  running : Phase
  awaiting : Outcome → Phase
  stopped : Outcome → Phase

pub record Engine : Type 0 where
  pub phase : Phase
  pub connection : Connection

abbrev pub fresh : Engine
fresh = record { phase = running; connection = M.fresh }

abbrev pub is_running : Phase → Bool
is_running running = true
is_running (awaiting o) = false
is_running (stopped o) = false

abbrev pub is_stopped : Phase → Bool
is_stopped running = false
is_stopped (awaiting o) = false
is_stopped (stopped o) = true

-- ---- events and answers

pub data Event : Type 0 where
  -- the connection's calls that come before a first frame
  send_header : List ℕ → Event
  receive_header : List ℕ → Event
  send_open : List ℕ → Event
  -- a frame, the spare handle that a listener's new session would get, the session frames that wait to be sent, and the lent output
  incoming : List ℕ → ℕ → List ℕ → List ℕ → Event
  -- a close order: its error if any, the session frames that wait to be sent, and the lent output
  close_order : Option ErrorText → List ℕ → List ℕ → Event
  allocate : ℕ → Event
  deallocate : ℕ → Event
  outgoing : List ℕ → List ℕ → Event
  tick : List ℕ → Event
  end_of_input : List ℕ → Event
  -- whether what was not delivered is a new session
  not_delivered : Bool → List ℕ → Event

-- what an event answers besides its refusal: whether it stops and with which outcome, the bytes consumed and written, and what the connection's call inside answered, if there was one
pub record Reply : Type 0 where
  pub ended : Option Outcome
  pub consumed : ℕ
  pub written : ℕ
  pub inner : Option (Verdict Answer)

-- where an event leaves an engine, and what it wrote
pub record Landing : Type 0 where
  pub phase : Phase
  pub connection : Connection
  pub bytes : List ℕ

abbrev pub landing : Phase → Connection → List ℕ → Landing
landing p c bytes = record { phase = p; connection = c; bytes = bytes }

pub record Result : Type 0 where
  pub lands : Landing
  pub consumed : ℕ
  pub inner : Option (Verdict Answer)

abbrev pub results : Landing → ℕ → Option (Verdict Answer) → Verdict Result
results l consumed inner = accept (record { lands = l; consumed = consumed; inner = inner })

-- after an event that went well, the engine goes on unless the connection is over
abbrev pub settled : State → Phase
settled x = cond (is End x) (stopped fine) running

-- ---- calls in a row

-- calls one after the other, up to the first that is refused: what the last one answered, the connection then, and all that was written
pub record Trail : Type 0 where
  pub last : Verdict Answer
  pub connection : Connection
  pub bytes : List ℕ

abbrev pub wrote_before : List ℕ → Trail → Trail
wrote_before bytes t = record { last = t.last; connection = t.connection; bytes = bytes ++ t.bytes }

abbrev pub further : Settings → Connection → (Answer → Connection → Trail) → Verdict M.Outcome → Trail
further S c rest (refuse k) = record { last = refuse k; connection = c; bytes = [] }
further S c rest (accept o) = wrote_before o.bytes (rest o.answer (apply S o.effect c))

abbrev pub trail : Role → Settings → Answer → Connection → List Call → Trail
trail role S last c [] = record { last = accept last; connection = c; bytes = [] }
trail role S last c (call ∷ calls) = further S c (λ a c'. trail role S a c' calls) (decide role S c call)

-- the first n frames in a slice, each with what stands after it
abbrev pub frames_in : ℕ → List ℕ → List (List ℕ)
frames_in zero s = []
frames_in (suc n) s = s ∷ frames_in n (drop (size_of s) s)

-- session frames go out, and then a Close
abbrev pub sending : List (List ℕ) → Option ErrorText → List ℕ → List Call
sending [] e out = send_close_to e out ∷ []
sending (f ∷ fs) e out = send_session_frame f out ∷ sending fs e out

-- ---- the error path

-- the outcome that an error leads to, and the error of the Close that tells the peer
pub record Fault : Type 0 where
  pub outcome : Outcome
  pub error : ErrorText

abbrev pub fault : Outcome → List ℕ → Option (List ℕ) → Fault
fault o condition description = record { outcome = o; error = record { condition = condition; description = description } }

abbrev pub illegal : Fault
illegal = fault illegal_state illegal_state_condition None

-- what the Rust says of a Begin that begins a session, where it takes none
abbrev pub unsupported : Role → Option (List ℕ)
unsupported dialler = Some no_remote_session
unsupported listener = None

-- what the refusal of a read leads to; of a transport error the peer is told nothing
abbrev pub read_fault : Role → ℕ → Option Fault
read_fault role k =
    cond (eqb k 20) (Some illegal)
    (cond (eqb k 24) (Some (fault not_found not_found_condition None))
    (cond (eqb k 25) (Some (fault not_implemented not_implemented_condition (unsupported role)))
    None))

-- what the refusal of something that was to go out leads to
abbrev pub send_fault : ℕ → Option Fault
send_fault k = cond (eqb k 20) (Some illegal) (cond (eqb k 24) (Some (fault not_found not_found_condition (Some no_outgoing_channel))) None)

-- what could not be delivered
abbrev pub undelivered : Role → Bool → Fault
undelivered listener true = fault not_implemented not_implemented_condition None
undelivered listener false = fault not_found not_found_condition (Some no_session)
undelivered dialler new = fault not_found not_found_condition (Some no_session)

abbrev pub outcome_of : Option Fault → Outcome
outcome_of None = transport_error
outcome_of (Some f) = f.outcome

-- where no Close can be sent: it is on its way already, or the connection is over, or there is nothing to close
abbrev pub unclosed : Outcome → State → Phase
unclosed o x = cond (is_one_of (ClosePipe ∷ CloseSent ∷ Discarding ∷ []) x) (awaiting o) (cond (is End x) (stopped o) (stopped illegal_state))

abbrev pub closed_with : Outcome → State → Phase
closed_with o x = cond (is End x) (stopped o) (awaiting o)

abbrev pub failed : Settings → Outcome → Connection → List ℕ → Verdict M.Outcome → Landing
failed S o c bytes (refuse k) = landing (cond (eqb k 20) (unclosed o c.state) (stopped transport_error)) c bytes
failed S o c bytes (accept w) = landing (closed_with o (apply S w.effect c).state) (apply S w.effect c) (bytes ++ w.bytes)

-- with what was written before
abbrev pub fail : Role → Settings → Option Fault → Connection → List ℕ → List ℕ → Landing
fail role S None c bytes out = landing (stopped transport_error) c bytes
fail role S (Some f) c bytes out = failed S f.outcome c bytes (decide role S c (send_close_to (Some f.error) out))

-- what goes out is refused, or the event goes on from there
abbrev pub onward : Role → Settings → List ℕ → (Connection → List ℕ → Landing) → Trail → Landing
onward role S out rest t = onward_by t.last
  where
    onward_by : Verdict Answer → Landing
    onward_by (refuse k) = fail role S (send_fault k) t.connection t.bytes out
    onward_by (accept a) = rest t.connection t.bytes

-- ---- a frame comes in

-- a Close was read, and the state is x: the outcome, if none is at hand
abbrev pub closed_by : Outcome → State → Bool → Outcome
closed_by o x true = remote_closed_with_error
closed_by o x false = cond (is CloseReceived x) remote_closed o

-- whether an answer tells of a Close, and then whether an error came with it
abbrev pub close_in : Answer → Option Bool
close_in (wrote n) = None
close_in stop = None
close_in (header n) = None
close_in (other_protocol n) = None
close_in (nothing_to_do n) = None
close_in (opened n idle) = None
close_in (closed n error) = Some error
close_in (forward n code h from len) = None
close_in (began n ch h from len) = None
close_in (channel ch) = None
close_in (freed h) = None

abbrev pub phase_read : Option Bool → State → State → Phase
phase_read None x y = settled y
phase_read (Some error) x y = stopped (closed_by fine x error)

-- a read that answered so and led to the state x
abbrev pub read_to : Role → Settings → List ℕ → State → Verdict Answer → Connection → List ℕ → Landing
read_to role S out x (refuse k) c bytes = fail role S (read_fault role k) c bytes out
read_to role S out x (accept a) c bytes = landing (phase_read (close_in a) x c.state) c bytes

abbrev pub is_close : Verdict (Frame × Option Performative) → Bool
is_close (refuse k) = false
is_close (accept (f, None)) = false
is_close (accept (f, Some p)) = eqb p.code 24

-- a frame was read and answered so, and led to the state x; a Close was sent since, so that an error has nothing more to close
abbrev pub phase_answered : Role → State → Verdict Answer → State → Phase
phase_answered role x (refuse k) y = stopped (outcome_of (read_fault role k))
phase_answered role x (accept a) y = phase_read (close_in a) x y

-- a Close that leaves CloseReceived behind is answered: the waiting frames, and then a Close
abbrev pub answering : Role → Settings → List (List ℕ) → List ℕ → Bool → Verdict Answer → Connection → Landing
answering role S waiting out true v c =
    onward role S out (λ c' bytes. landing (phase_answered role c.state v c'.state) c' bytes) (trail role S (wrote 0) c (sending waiting None out))
answering role S waiting out false v c = read_to role S out c.state v c []

abbrev pub received : Role → Settings → List (List ℕ) → List ℕ → Bool → Connection → Verdict M.Outcome → Landing
received role S waiting out close c v = answering role S waiting out (close && is CloseReceived (after S v c).state) (answered v) (after S v c)

abbrev pub phase_awaited : Outcome → Option Bool → State → Phase
phase_awaited o None x = awaiting o
phase_awaited o (Some error) x = stopped (closed_by o x error)

abbrev pub awaited : Role → Settings → Outcome → Connection → Verdict M.Outcome → Landing
awaited role S o c (refuse k) = landing (stopped (outcome_of (read_fault role k))) c []
awaited role S o c (accept w) = landing (phase_awaited o (close_in w.answer) (apply S w.effect c).state) (apply S w.effect c) []

-- a frame whose length is not to be trusted consumes nothing
abbrev pub consumed_of : List ℕ → Verdict Answer → ℕ
consumed_of s (refuse k) = cond (eqb k 3 || eqb k 4) 0 (size_of s)
consumed_of s (accept a) = size_of s

abbrev pub reads : Role → Settings → List (List ℕ) → List ℕ → Bool → Verdict M.Outcome → Engine → Landing
reads role S waiting out close v e = reads_in e.phase
  where
    reads_in : Phase → Landing
    reads_in running = received role S waiting out close e.connection v
    reads_in (awaiting o) = awaited role S o e.connection v
    reads_in (stopped o) = landing (stopped o) e.connection []

-- bytes missing
abbrev pub lacks : Verdict M.Outcome → Bool
lacks (refuse k) = eqb k 1
lacks (accept w) = false

-- ---- end of input

abbrev pub cut_short : Phase → Phase
cut_short running = running
cut_short (awaiting o) = stopped transport_error
cut_short (stopped o) = stopped o

abbrev pub cut : Landing → Landing
cut l = landing (cut_short l.phase) l.connection l.bytes

abbrev pub input_ends : Role → Settings → List ℕ → Connection → Phase → Landing
input_ends role S out c running =
    cond (is_one_of (ClosePipe ∷ Discarding ∷ End ∷ []) c.state) (landing (stopped fine) c [])
    (cut (fail role S (Some illegal) c [] out))
input_ends role S out c (awaiting o) = landing (stopped transport_error) c []
input_ends role S out c (stopped o) = landing (stopped o) c []

-- ---- the rules

-- what one call comes to: a call that opens the connection leaves the phase as it is, with the bytes that it consumed
abbrev pub opening : Settings → Connection → ℕ → M.Outcome → Verdict Result
opening S c consumed w = results (landing running (apply S w.effect c) w.bytes) consumed (Some (accept w.answer))

abbrev pub well : Settings → Connection → M.Outcome → Verdict Result
well S c w = results (landing (settled (apply S w.effect c).state) (apply S w.effect c) w.bytes) 0 (Some (accept w.answer))

abbrev pub goes : Role → Settings → List ℕ → Trail → Verdict Result
goes role S out t = results (onward role S out (λ c bytes. landing (settled c.state) c bytes) t) 0 (Some t.last)

-- what an event comes to
abbrev pub judge : Role → Settings → Engine → Event → Verdict Result
judge role S e (send_header out) =
    require 9 (room_for 0 out) (λ _.
    require 20 (is_running e.phase) (λ _.
    and_then (decide role S e.connection (send_header_to out)) (opening S e.connection 0)))
judge role S e (receive_header s) =
    require 20 (is_running e.phase) (λ _.
    and_then (decide role S e.connection (receive_header_from s)) (opening S e.connection 8))
judge role S e (send_open out) =
    require 9 (room_for 0 out) (λ _.
    require 20 (is_running e.phase) (λ _.
    and_then (decide role S e.connection (send_open_to out)) (opening S e.connection 0)))
judge role S e (incoming s h w out) =
    require 9 (room_for (length w) out) (λ _.
    require 20 (not (is_stopped e.phase)) (λ _.
    require 1 (not (lacks (decide role S e.connection (receive_frame s h)))) (λ _.
    and_then (session_frames S.channel_max w) (λ n.
    results
    (reads role S (frames_in n w) out (is_close (read_frame e.connection.reading_limit S.channel_max s)) (decide role S e.connection (receive_frame s h)) e)
    (consumed_of s (answered (decide role S e.connection (receive_frame s h))))
    (Some (answered (decide role S e.connection (receive_frame s h))))))))
judge role S e (close_order error w out) =
    require 9 (room_for (length w) out) (λ _.
    require 8 (close_ok error) (λ _.
    require 20 (is_running e.phase) (λ _.
    and_then (session_frames S.channel_max w) (λ n.
    goes role S out (trail role S (wrote 0) e.connection (sending (frames_in n w) error out))))))
judge role S e (allocate h) =
    require 20 (is_running e.phase) (λ _.
    and_then (decide role S e.connection (M.allocate h)) (well S e.connection))
judge role S e (deallocate ch) =
    require 20 (is_running e.phase) (λ _.
    and_then (decide role S e.connection (M.deallocate ch)) (well S e.connection))
judge role S e (outgoing s out) =
    require 9 (room_for 0 out) (λ _.
    require 20 (is_running e.phase) (λ _.
    and_then (session_frame S.channel_max s) (λ r.
    goes role S out (trail role S (wrote 0) e.connection (send_session_frame s out ∷ [])))))
judge role S e (tick out) =
    require 9 (room_for 0 out) (λ _.
    require 20 (is_running e.phase) (λ _.
    and_then (decide role S e.connection (M.tick out)) (well S e.connection)))
judge role S e (end_of_input out) =
    require 9 (room_for 0 out) (λ _.
    require 20 (not (is_stopped e.phase)) (λ _.
    results (input_ends role S out e.connection e.phase) 0 None))
judge role S e (not_delivered new out) =
    require 9 (room_for 0 out) (λ _.
    require 20 (is_running e.phase) (λ _.
    results (fail role S (Some (undelivered role new)) e.connection [] out) 0 None))

-- ---- an event, and lists of events

abbrev pub lent : Event → List ℕ
lent (send_header out) = out
lent (receive_header s) = []
lent (send_open out) = out
lent (incoming s h w out) = out
lent (close_order error w out) = out
lent (allocate h) = []
lent (deallocate ch) = []
lent (outgoing s out) = out
lent (tick out) = out
lent (end_of_input out) = out
lent (not_delivered new out) = out

-- whether its lent output has the room that an event asks for; where it has not, the event is 9
abbrev pub has_room : Event → Bool
has_room (send_header out) = room_for 0 out
has_room (receive_header s) = true
has_room (send_open out) = room_for 0 out
has_room (incoming s h w out) = room_for (length w) out
has_room (close_order error w out) = room_for (length w) out
has_room (allocate h) = true
has_room (deallocate ch) = true
has_room (outgoing s out) = room_for 0 out
has_room (tick out) = room_for 0 out
has_room (end_of_input out) = room_for 0 out
has_room (not_delivered new out) = room_for 0 out

abbrev pub ended_in : Phase → Option Outcome
ended_in running = None
ended_in (awaiting o) = None
ended_in (stopped o) = Some o

abbrev pub replied : Verdict Result → Verdict Reply
replied (refuse k) = refuse k
replied (accept r) = accept (record { ended = ended_in r.lands.phase; consumed = r.consumed; written = length r.lands.bytes; inner = r.inner })

abbrev pub written : Verdict Result → Verdict (List ℕ)
written (refuse k) = refuse k
written (accept r) = accept r.lands.bytes

-- what a caller sees of an event: its refusal or reply, and its lent output afterwards
pub record Seen : Type 0 where
  pub reply : Verdict Reply
  pub output : List ℕ

abbrev pub seen : Role → Settings → Engine → Event → Seen
seen role S e event = record { reply = replied (judge role S e event); output = laid (written (judge role S e event)) (lent event) }

-- a refusal leaves the engine as it is
abbrev pub landed : Verdict Result → Engine → Engine
landed (refuse k) e = e
landed (accept r) e = record { phase = r.lands.phase; connection = r.lands.connection }

abbrev pub next : Role → Settings → Engine → Event → Engine
next role S e event = landed (judge role S e event) e

abbrev pub run : Role → Settings → Engine → List Event → Engine
run role S e [] = e
run role S e (event ∷ events) = run role S (next role S e event) events

abbrev pub seen_in : Role → Settings → Engine → List Event → List Seen
seen_in role S e [] = []
seen_in role S e (event ∷ events) = seen role S e event ∷ seen_in role S (next role S e event) events
