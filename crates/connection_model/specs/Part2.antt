-- Part 2's table of connection states beside ours: the diagram and the table of legal sends and receives of its section 2.4.7, and each action and state where a connection here does otherwise.
-- proofs/Part2.antt computes that these are all.
-- Assumes nothing: these are definitions.
use Rattle.std.specs.Prelude.{Bool, true, false, cond, not, List, [], ◌∷◌, ◌++◌, map, ℕ, eqb, replicate, None, Some}
use Rattle.octets.specs.Verdict.{Verdict, refuse, accept}
use Rattle.protocol_header.specs.Header.{version100, header_bytes}
use Rattle.frame_encoder.specs.Frames.{Settings, ErrorText, frame_bytes, open_body, close_body}
use Rattle.connection_state.specs.States.{State, Start, HeaderReceived, HeaderSent, HeaderExchange, OpenPipe, OpenClosePipe, OpenReceived, OpenSent, ClosePipe, Opened, CloseReceived, CloseSent, Discarding, End, numbered, states, Move, ◌⇒◌, along}
use Rattle.channels.specs.Numbers.{nowhere, with}
use Rattle.channels.specs.Ties.{tie_of}
use Rattle.connection_model.specs.Connection.{dialler, Connection, connection, Call, send_header_to, receive_header_from, send_open_to, receive_frame, send_close_to, send_session_frame, tick, Outcome, apply, decide}

-- ---- Part 2

-- the protocol header, an Open, a Close, a session's frame, an empty frame
pub data Control : Type 0 where
  HDR OPEN CLOSE SESSION EMPTY : Control

-- R:<CTRL> and S:<CTRL>, as the diagram labels its arrows; a header that is not the one sent, R:HDR[!=S:HDR]; and a Close that an error triggers
pub data Action : Type 0 where
  R S : Control → Action
  other_r error_s : Action

abbrev pub control : Action → Control
control (R c) = c
control (S c) = c
control other_r = HDR
control error_s = CLOSE

-- the arrows of the diagram, in which CLOSE_SENT stands for DISCARDING too if an error triggered the Close.
-- Two are not drawn, and follow from section 2.4.6: a Close that comes in OPEN_RCVD, where any frame may come, leads to CLOSE_RCVD; and an Open in DISCARDING is discarded, as every frame
abbrev pub arrows : Action → List Move
arrows (R HDR) = (Start ⇒ HeaderReceived) ∷ (HeaderSent ⇒ HeaderExchange) ∷ (OpenPipe ⇒ OpenSent) ∷ (OpenClosePipe ⇒ ClosePipe) ∷ []
arrows other_r = (Start ⇒ HeaderReceived) ∷ (HeaderSent ⇒ End) ∷ (OpenPipe ⇒ End) ∷ (OpenClosePipe ⇒ End) ∷ []
arrows (R OPEN) = (HeaderExchange ⇒ OpenReceived) ∷ (OpenSent ⇒ Opened) ∷ (ClosePipe ⇒ CloseSent) ∷ (Discarding ⇒ Discarding) ∷ []
arrows (R CLOSE) = (OpenReceived ⇒ CloseReceived) ∷ (Opened ⇒ CloseReceived) ∷ (CloseSent ⇒ End) ∷ (Discarding ⇒ End) ∷ []
arrows (R SESSION) = []
arrows (R EMPTY) = []
arrows (S HDR) = (Start ⇒ HeaderSent) ∷ (HeaderReceived ⇒ HeaderExchange) ∷ []
arrows (S OPEN) = (HeaderSent ⇒ OpenPipe) ∷ (HeaderExchange ⇒ OpenSent) ∷ (OpenReceived ⇒ Opened) ∷ []
arrows (S CLOSE) = (OpenPipe ⇒ OpenClosePipe) ∷ (OpenSent ⇒ ClosePipe) ∷ (Opened ⇒ CloseSent) ∷ (CloseReceived ⇒ End) ∷ []
arrows error_s = (OpenPipe ⇒ OpenClosePipe) ∷ (OpenSent ⇒ ClosePipe) ∷ (Opened ⇒ Discarding) ∷ (CloseReceived ⇒ End) ∷ []
arrows (S SESSION) = []
arrows (S EMPTY) = []

-- the entries of the table: HDR, OPEN, any frames, no frames
pub data Entry : Type 0 where
  only_hdr only_open any_frame no_frame : Entry

-- the table: legal sends, and legal receives. In OPEN_SENT and OPEN_PIPE a frame may be sent that is known to conform to the peer's limits
abbrev pub legal : State → Entry × Entry
legal Start = (only_hdr, only_hdr)
legal HeaderReceived = (only_hdr, only_open)
legal HeaderSent = (only_open, only_hdr)
legal HeaderExchange = (only_open, only_open)
legal OpenReceived = (only_open, any_frame)
legal OpenSent = (any_frame, only_open)
legal OpenPipe = (any_frame, only_hdr)
legal ClosePipe = (no_frame, only_open)
legal OpenClosePipe = (no_frame, only_hdr)
legal Opened = (any_frame, any_frame)
legal CloseReceived = (any_frame, no_frame)
legal CloseSent = (no_frame, any_frame)
legal Discarding = (no_frame, any_frame)
legal End = (no_frame, no_frame)

abbrev pub is_frame : Control → Bool
is_frame HDR = false
is_frame OPEN = true
is_frame CLOSE = true
is_frame SESSION = true
is_frame EMPTY = true

abbrev pub is_open : Control → Bool
is_open HDR = false
is_open OPEN = true
is_open CLOSE = false
is_open SESSION = false
is_open EMPTY = false

abbrev pub admits : Entry → Control → Bool
admits only_hdr c = not (is_frame c)
admits only_open c = is_open c
admits any_frame c = is_frame c
admits no_frame c = false

abbrev pub entry_for : Action → Entry × Entry → Entry
entry_for (R c) e = e.1
entry_for other_r e = e.1
entry_for (S c) e = e.0
entry_for error_s e = e.0

abbrev pub is_legal : Action → State → Bool
is_legal a x = admits (entry_for a (legal x)) (control a)

-- ---- where an action leads

-- unsaid: it is legal by the table, and no arrow says where it leads
pub data Leads : Type 0 where
  illegal unsaid : Leads
  to : State → Leads

-- the frames that the diagram does not speak of leave the state as it is
abbrev pub undrawn : Control → State → Leads
undrawn HDR x = unsaid
undrawn OPEN x = unsaid
undrawn CLOSE x = unsaid
undrawn SESSION x = to x
undrawn EMPTY x = to x

abbrev pub followed : Action → State → Verdict State → Leads
followed a x (accept y) = to y
followed a x (refuse k) = cond (is_legal a x) (undrawn (control a) x) illegal

abbrev pub there : Action → State → Leads
there a x = followed a x (along (arrows a) x)

-- ---- the same action here

abbrev pub settings : Settings
settings = record { container_id = []; max_frame_size = 512; channel_max = 0; idle_time_out = None }

-- channel 0 is taken and tied, so that nothing but the state can refuse
abbrev pub standing : State → Connection
standing x = connection x 512 512 (Some 0) (Some []) (with nowhere 0 (Some 1)) (with nowhere 0 (Some (tie_of 0 1)))

-- a Detach of handle 0, on channel 0
abbrev pub detach : List ℕ
detach = frame_bytes 0 (0x00 ∷ 0x53 ∷ 0x16 ∷ 0xC0 ∷ 0x02 ∷ 0x01 ∷ 0x43 ∷ [])

abbrev pub failure : ErrorText
failure = record { condition = 0x78 ∷ []; description = None }

unfoldable pub room : List ℕ
room = replicate 32768 0

abbrev pub as_call : Action → Call
as_call (R HDR) = receive_header_from (header_bytes (version100 0))
as_call other_r = receive_header_from (header_bytes (version100 3))
as_call (R OPEN) = receive_frame (frame_bytes 0 (open_body settings)) 0
as_call (R CLOSE) = receive_frame (frame_bytes 0 (close_body None)) 0
as_call (R SESSION) = receive_frame detach 0
as_call (R EMPTY) = receive_frame (frame_bytes 0 []) 0
as_call (S HDR) = send_header_to room
as_call (S OPEN) = send_open_to room
as_call (S CLOSE) = send_close_to None room
as_call error_s = send_close_to (Some failure) room
as_call (S SESSION) = send_session_frame detach room
as_call (S EMPTY) = tick room

-- what is sent has bytes
abbrev pub sent : List ℕ → State → Leads
sent [] x = illegal
sent (b ∷ bs) x = to x

abbrev pub arrived : Action → List ℕ → State → Leads
arrived (R c) bs x = to x
arrived other_r bs x = to x
arrived (S c) bs x = sent bs x
arrived error_s bs x = sent bs x

-- of the refusals 20 alone is the state's
abbrev pub came : Action → State → Verdict Outcome → Leads
came a x (refuse k) = cond (eqb k 20) illegal unsaid
came a x (accept o) = arrived a o.bytes (apply settings o.effect (standing x)).state

abbrev pub here : Action → State → Leads
here a x = came a x (decide dialler settings (standing x) (as_call a))

-- ---- where the two differ

abbrev pub place : Leads → ℕ
place (to x) = numbered x
place illegal = 14
place unsaid = 15

pub record Difference : Type 0 where
  pub action : Action
  pub state : State
  pub ours : Leads
  pub theirs : Leads

infix 5 ◌from◌∶◌not◌
abbrev pub ◌from◌∶◌not◌ : Action → State → Leads → Leads → Difference
a from x ∶ l not k = record { action = a; state = x; ours = l; theirs = k }

abbrev pub unless_same : Bool → Difference → List Difference → List Difference
unless_same true d ds = ds
unless_same false d ds = d ∷ ds

abbrev pub in_states : Action → List State → List Difference
in_states a [] = []
in_states a (x ∷ xs) = unless_same (eqb (place (here a x)) (place (there a x))) (a from x ∶ here a x not there a x) (in_states a xs)

abbrev pub differing : List Action → List Difference
differing [] = []
differing (a ∷ as') = in_states a states ++ differing as'

abbrev pub actions : List Action
actions = R HDR ∷ other_r ∷ R OPEN ∷ R CLOSE ∷ R SESSION ∷ R EMPTY ∷ S HDR ∷ S OPEN ∷ S CLOSE ∷ error_s ∷ S SESSION ∷ S EMPTY ∷ []

-- all of them, each with what it leads to here and in Part 2
abbrev pub differences : List Difference
differences =
    -- no header is taken in OpenPipe and OpenClosePipe
    (R HDR from OpenPipe ∶ illegal not to OpenSent) ∷ (R HDR from OpenClosePipe ∶ illegal not to ClosePipe)
    -- a header of another protocol ends a connection where headers are taken, and none is sent back
    ∷ (other_r from Start ∶ to End not to HeaderReceived) ∷ (other_r from OpenPipe ∶ illegal not to End) ∷ (other_r from OpenClosePipe ∶ illegal not to End)
    -- an Open before our header is legal by the table, but no state stands for it; a second Open is a frame, but no arrow is drawn for it
    ∷ (map (λ x. R OPEN from x ∶ illegal not unsaid) (HeaderReceived ∷ OpenReceived ∷ Opened ∷ CloseSent ∷ [])
    -- a Close is read before the peer's Open too
    ++ (map (λ x. R CLOSE from x ∶ to CloseReceived not illegal) (OpenPipe ∷ OpenClosePipe ∷ OpenSent ∷ [])
    -- sessions' frames are read after both Opens, until our Close
    ++ (map (λ x. R SESSION from x ∶ illegal not to x) (OpenReceived ∷ CloseSent ∷ [])
    -- an empty frame is "nothing to do" in every state
    ++ (map (λ x. R EMPTY from x ∶ to x not illegal)
    (Start ∷ HeaderReceived ∷ HeaderSent ∷ HeaderExchange ∷ OpenPipe ∷ OpenClosePipe ∷ OpenSent ∷ ClosePipe ∷ CloseReceived ∷ End ∷ [])
    -- a second Open is not sent
    ++ (map (λ x. S OPEN from x ∶ illegal not unsaid) (OpenPipe ∷ OpenSent ∷ Opened ∷ CloseReceived ∷ [])
    -- a Close with an error leads to Discarding from OpenPipe and OpenSent too
    ++ ((error_s from OpenPipe ∶ to Discarding not to OpenClosePipe) ∷ (error_s from OpenSent ∶ to Discarding not to ClosePipe)
    -- sessions' frames are sent after both Opens
    ∷ (map (λ x. S SESSION from x ∶ illegal not to x) (OpenPipe ∷ OpenSent ∷ [])
    -- a tick sends an empty frame in every state but Start, CloseSent and End
    ++ map (λ x. S EMPTY from x ∶ to x not illegal) (HeaderReceived ∷ HeaderSent ∷ HeaderExchange ∷ OpenClosePipe ∷ OpenReceived ∷ ClosePipe ∷ Discarding ∷ []))))))))
