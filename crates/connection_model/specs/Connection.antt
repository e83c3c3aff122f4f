-- A connection: its settings and role, what it holds, its calls, and for each call what it answers, does and writes (document 01, "The connection's calls" and "Channel numbers";
-- document 02, wish 7: a tie goes with the channel through which it was made).
-- Calls carry what a caller passes: bytes, numbers, and the lent output with the bytes that stand there. A rule is a verdict: a refusal, or an outcome.
-- Assumes nothing: these are definitions.
use Rattle.std.specs.Prelude.{Bool, true, false, cond, not, List, [], ◌∷◌, ℕ, suc, ◌-◌, min, max, length, eqb, Option, None, Some}
use Rattle.octets.specs.Verdict.{Verdict, refuse, accept, require, and_then}
use Rattle.octets.specs.Output.{room_for, laid}
use Rattle.protocol_header.specs.Header.{Protocol, amqp100, other, received, version100, header_bytes}
use Rattle.performatives.specs.Performative.{Performative, max_frame_size, channel_max, idle_time_out, remote_channel, condition}
use Rattle.frame_decoder.specs.Frame.{Frame, read_frame, session_frame, begins_for}
use Rattle.frame_encoder.specs.Frames.{Settings, ErrorText, frame_bytes, limited, open_body, close_ok, close_body}
use Rattle.session_frame.specs.Session.{session_bytes}
use Rattle.channels.specs.Numbers.{Map, nowhere, with, up_from, freed_first}
use Rattle.channels.specs.Ties.{Tie, tie_of, Ties, dropped}
use Rattle.connection_state.specs.States.{State, Start, Discarding, End, is, is_one_of, along, send_header, receive_header, receive_other_header, send_open, read_open, send_close, send_close_with_error, read_close, reading, sending, stopped, silent}

-- ---- what a connection is made with, and what it holds

pub data Role : Type 0 where
  dialler listener : Role

-- hand_out is the list of numbers that allocating would give in turn; there is none before the peer's Open
pub record Connection : Type 0 where
  pub state : State
  pub reading_limit : ℕ
  pub writing_limit : ℕ
  pub agreed_max : Option ℕ
  pub hand_out : Option (List ℕ)
  pub taken : Map
  pub ties : Ties

abbrev pub fresh : Connection
fresh = record { state = Start; reading_limit = 512; writing_limit = 512; agreed_max = None; hand_out = None; taken = nowhere; ties = nowhere }

-- ---- calls and answers

-- receive_frame has the bytes and the spare handle that a listener's new session would get
pub data Call : Type 0 where
  send_header_to : List ℕ → Call
  receive_header_from : List ℕ → Call
  send_open_to : List ℕ → Call
  receive_frame : List ℕ → ℕ → Call
  send_close_to : Option ErrorText → List ℕ → Call
  send_session_frame : List ℕ → List ℕ → Call
  allocate : ℕ → Call
  deallocate : ℕ → Call
  tick : List ℕ → Call

-- what a call answers besides its refusal. Of a read the first number is how many bytes it consumed
pub data Answer : Type 0 where
  wrote : ℕ → Answer
  stop : Answer
  header : ℕ → Answer
  other_protocol : ℕ → Answer
  nothing_to_do : ℕ → Answer
  -- the peer's idle-time-out, zero for none
  opened : ℕ → ℕ → Answer
  -- whether an error came
  closed : ℕ → Bool → Answer
  -- to whom: the performative's descriptor, the handle, the place of the body and its length
  forward : ℕ → ℕ → ℕ → ℕ → ℕ → Answer
  -- a session that the peer began: the outgoing channel that it got, the handle, the place of the body and its length
  began : ℕ → ℕ → ℕ → ℕ → ℕ → Answer
  channel : ℕ → Answer
  freed : ℕ → Answer

-- what an accepted call does to a connection
pub data Effect : Type 0 where
  stay : Effect
  go : State → Effect
  -- the state, the agreed channel-max and the writing limit
  agree : State → ℕ → ℕ → Effect
  -- a channel, what is left of the hand-out list, and the handle
  take : ℕ → List ℕ → ℕ → Effect
  give : ℕ → Effect
  -- an incoming channel gets this tie, or none
  tie : ℕ → Option Tie → Effect
  -- take, and an incoming channel that is tied through the channel taken
  take_and_tie : ℕ → List ℕ → ℕ → ℕ → Effect

pub record Outcome : Type 0 where
  pub answer : Answer
  pub effect : Effect
  pub bytes : List ℕ

abbrev pub says : Answer → Effect → Verdict Outcome
says a e = accept (record { answer = a; effect = e; bytes = [] })

abbrev pub writes : List ℕ → Effect → Verdict Outcome
writes bytes e = accept (record { answer = wrote (length bytes); effect = e; bytes = bytes })

abbrev pub connection : State → ℕ → ℕ → Option ℕ → Option (List ℕ) → Map → Ties → Connection
connection x r w m l tk ti = record { state = x; reading_limit = r; writing_limit = w; agreed_max = m; hand_out = l; taken = tk; ties = ti }

abbrev pub apply : Settings → Effect → Connection → Connection
apply S stay c = c
apply S (go x) c = connection x c.reading_limit c.writing_limit c.agreed_max c.hand_out c.taken c.ties
apply S (agree x m w) c = connection x S.max_frame_size w (Some m) (Some (up_from 0 (suc m))) c.taken c.ties
apply S (take ch rest h) c = connection c.state c.reading_limit c.writing_limit c.agreed_max (Some rest) (with c.taken ch (Some h)) c.ties
apply S (give ch) c = connection c.state c.reading_limit c.writing_limit c.agreed_max (freed_first ch c.hand_out) (with c.taken ch None) (dropped ch c.ties)
apply S (tie n t) c = connection c.state c.reading_limit c.writing_limit c.agreed_max c.hand_out c.taken (with c.ties n t)
apply S (take_and_tie ch rest h n) c =
    connection c.state c.reading_limit c.writing_limit c.agreed_max (Some rest) (with c.taken ch (Some h)) (with c.ties n (Some (tie_of ch h)))

-- ---- the rules

abbrev pub only_in : List State → State → (Unit {0} → Verdict Outcome) → Verdict Outcome
only_in states x rest = require 20 (is_one_of states x) rest

-- a writing limit is at least 512 and at most 16,384
abbrev pub clamped : ℕ → ℕ
clamped n = max 512 (min n 16384)

abbrev pub headed : Connection → Protocol → Verdict Outcome
headed c amqp100 = and_then (along receive_header c.state) (λ x. says (header 8) (go x))
headed c (other h) = and_then (along receive_other_header c.state) (λ x. says (other_protocol 8) (go x))

abbrev pub has_error : List ℕ → Bool
has_error [] = false
has_error (place ∷ l) = true

-- a frame's body, that goes on to a handle
abbrev pub forwarded : Frame → ℕ → ℕ → Answer
forwarded f code h = forward f.size code h f.from (f.size - f.from)

-- a Begin's channel is tied through the outgoing channel r, if a handle holds it; an End's is untied, and what comes between passed on
abbrev pub tie_to : Frame → ℕ → Option ℕ → Verdict Outcome
tie_to f r None = refuse 24
tie_to f r (Some h) = says (forwarded f 17 h) (tie f.channel (Some (tie_of r h)))

abbrev pub untie : Frame → Option Tie → Verdict Outcome
untie f None = refuse 24
untie f (Some t) = says (forwarded f 23 t.handle) (tie f.channel None)

abbrev pub pass_on : Frame → ℕ → Option Tie → Verdict Outcome
pass_on f code None = refuse 24
pass_on f code (Some t) = says (forwarded f code t.handle) stay

abbrev pub new_session : Role → Frame → ℕ → Option (List ℕ) → Verdict Outcome
new_session dialler f h l = refuse 25
new_session listener f h None = refuse 25
new_session listener f h (Some []) = refuse 25
new_session listener f h (Some (ch ∷ rest)) = says (began f.size ch h f.from (f.size - f.from)) (take_and_tie ch rest h f.channel)

-- a Begin that answers one of ours names its channel; one without begins a session
abbrev pub begun : Role → Connection → Frame → ℕ → List ℕ → Verdict Outcome
begun role c f h [] = new_session role f h c.hand_out
begun role c f h (r ∷ l) = tie_to f r (c.taken r)

-- the peer's max-frame-size, channel-max and idle-time-out
abbrev pub open_read : Settings → Connection → Frame → ℕ → ℕ → ℕ → Verdict Outcome
open_read S c f size most idle =
    and_then (along read_open c.state) (λ x. says (opened f.size idle) (agree x (min S.channel_max most) (clamped size)))

-- whether it has an error
abbrev pub close_read : Connection → Frame → Bool → Verdict Outcome
close_read c f error = and_then (along read_close c.state) (λ x. says (closed f.size error) (go x))

-- which performative it is, and the remote-channel of a Begin
abbrev pub session_read : Role → Connection → Frame → ℕ → ℕ → List ℕ → Verdict Outcome
session_read role c f h code rs =
    only_in reading c.state (λ _.
    cond (eqb code 17) (begun role c f h rs)
    (cond (eqb code 23) (untie f (c.ties f.channel))
    (pass_on f code (c.ties f.channel))))

-- Close is read in Discarding, and every other frame is answered "nothing to do" there
abbrev pub performative_read : Role → Settings → Connection → Frame → ℕ → Performative → Verdict Outcome
performative_read role S c f h p =
    cond (eqb p.code 24) (close_read c f (has_error (condition 0 p)))
    (cond (is Discarding c.state) (says (nothing_to_do f.size) stay)
    (cond (eqb p.code 16) (open_read S c f (max_frame_size p) (channel_max p) (idle_time_out p))
    (session_read role c f h p.code (remote_channel p))))

abbrev pub frame_read : Role → Settings → Connection → ℕ → Frame × Option Performative → Verdict Outcome
frame_read role S c h (f, None) = says (nothing_to_do f.size) stay
frame_read role S c h (f, Some p) = performative_read role S c f h p

abbrev pub closes : Option ErrorText → State → Verdict State
closes None x = along send_close x
closes (Some e) x = along send_close_with_error x

-- a listener's Begin on a channel, that names a remote-channel, ties it through this channel to the handle that holds it
abbrev pub tied_by : Role → List ℕ → ℕ → Option ℕ → Verdict Effect
tied_by dialler rs ch h = accept stay
tied_by listener [] ch h = accept stay
tied_by listener (r ∷ rs) ch None = refuse 24
tied_by listener (r ∷ rs) ch (Some h) = accept (tie r (Some (tie_of ch h)))

abbrev pub session_sent : Role → Connection → List ℕ → Frame × Performative → Verdict Outcome
session_sent role c s r =
    only_in sending c.state (λ _.
    and_then (tied_by role (begins_for (eqb r.1.code 17) r.1) r.0.channel (c.taken r.0.channel)) (λ e.
    and_then (limited c.writing_limit (session_bytes s r)) (λ bytes.
    writes bytes e)))

abbrev pub given : ℕ → Option (List ℕ) → Verdict Outcome
given h None = refuse 21
given h (Some []) = refuse 23
given h (Some (ch ∷ rest)) = says (channel ch) (take ch rest h)

abbrev pub released : ℕ → Option ℕ → Verdict Outcome
released ch None = refuse 26
released ch (Some h) = says (freed h) (give ch)

abbrev pub ticked : State → Verdict Outcome
ticked x = cond (is End x) (says stop stay) (cond (is_one_of silent x) (writes [] stay) (writes (frame_bytes 0 []) stay))

-- what a call comes to
abbrev pub decide : Role → Settings → Connection → Call → Verdict Outcome
decide role S c (send_header_to out) =
    require 9 (room_for 0 out) (λ _.
    and_then (along send_header c.state) (λ x.
    writes (header_bytes (version100 0)) (go x)))
decide role S c (receive_header_from s) = and_then (received s) (headed c)
decide role S c (send_open_to out) =
    require 9 (room_for 0 out) (λ _.
    and_then (along send_open c.state) (λ x.
    and_then (limited c.writing_limit (frame_bytes 0 (open_body S))) (λ bytes.
    writes bytes (go x))))
decide role S c (receive_frame s h) = and_then (read_frame c.reading_limit S.channel_max s) (frame_read role S c h)
decide role S c (send_close_to e out) =
    require 9 (room_for 0 out) (λ _.
    require 8 (close_ok e) (λ _.
    and_then (closes e c.state) (λ x.
    and_then (limited c.writing_limit (frame_bytes 0 (close_body e))) (λ bytes.
    writes bytes (go x)))))
decide role S c (send_session_frame s out) =
    require 9 (room_for 0 out) (λ _.
    and_then (session_frame S.channel_max s) (session_sent role c s))
decide role S c (allocate h) = require 22 (not (is_one_of stopped c.state)) (λ _. given h c.hand_out)
decide role S c (deallocate ch) = released ch (c.taken ch)
decide role S c (tick out) = require 9 (room_for 0 out) (λ _. ticked c.state)

-- ---- a call, and lists of calls

abbrev pub lent : Call → List ℕ
lent (send_header_to out) = out
lent (receive_header_from s) = []
lent (send_open_to out) = out
lent (receive_frame s h) = []
lent (send_close_to e out) = out
lent (send_session_frame s out) = out
lent (allocate h) = []
lent (deallocate ch) = []
lent (tick out) = out

-- what a caller sees of a call: its refusal or answer, and its lent output afterwards
pub record Seen : Type 0 where
  pub answer : Verdict Answer
  pub output : List ℕ

abbrev pub answered : Verdict Outcome → Verdict Answer
answered (refuse k) = refuse k
answered (accept o) = accept o.answer

abbrev pub written : Verdict Outcome → Verdict (List ℕ)
written (refuse k) = refuse k
written (accept o) = accept o.bytes

abbrev pub seen : Role → Settings → Connection → Call → Seen
seen role S c call = record { answer = answered (decide role S c call); output = laid (written (decide role S c call)) (lent call) }

-- a refusal leaves the connection as it is
abbrev pub after : Settings → Verdict Outcome → Connection → Connection
after S (refuse k) c = c
after S (accept o) c = apply S o.effect c

abbrev pub next : Role → Settings → Connection → Call → Connection
next role S c call = after S (decide role S c call) c

abbrev pub run : Role → Settings → Connection → List Call → Connection
run role S c [] = c
run role S c (call ∷ calls) = run role S (next role S c call) calls

abbrev pub seen_in : Role → Settings → Connection → List Call → List Seen
seen_in role S c [] = []
seen_in role S c (call ∷ calls) = seen role S c call ∷ seen_in role S (next role S c call) calls
