-- What the calls of a connection promise.
-- Assumes nothing: these are definitions.
use Rattle.std.specs.Prelude.{◌≡◌, Bool, true, false, cond, ◌&&◌, List, [], ◌∷◌, ℕ, suc, eqb, length, Option, None, Some, Result, Ok, Err}
use Rattle.octets.specs.Verdict.{Verdict, refuse, accept, require}
use Rattle.octets.specs.Output.{room_for, laid}
use Rattle.octets.specs.Refusal.{number_of}
use Rattle.octets.specs.declared.Refusal.{Refusal}
use Rattle.frame_decoder.specs.Frame.{Frame}
use Rattle.frame_decoder.specs.declared.Frame as F
use Rattle.frame_decoder.specs.declared.Frame.TheVariants.{Empty, Body}
use Rattle.frame_encoder.specs.Frames.{Settings}
use Rattle.connection_state.specs.declared.ConnectionState.{ConnectionState}
use Rattle.connection_state.specs.States.{State, Discarding, is}
use Rattle.connection_model.specs.Connection.{Role, Answer, Outcome, Call, seen, next, lent, fresh, answered, written, after, ticked, says, stay, nothing_to_do, has_error, open_read, close_read, session_read}
use Rattle.connection_model.specs.Connection as M
use Rattle.channels.specs.Numbers.{taken_below}
use Rattle.channels.specs.Places.{covers, past}
use Rattle.local_open.specs.Settings.{allowed}
use Rattle.endpoint.specs.Answers.{places_of}
use Rattle.endpoint.specs.Promises as E
use Rattle.endpoint.specs.declared.Endpoint.{Endpoint}
use Rattle.connection.specs.declared.Connection.{Connection}
use Rattle.connection.specs.View.{Whole, whole, endpoint_in, role_of, settings_of, view_of, Sound}

-- ---- calls

-- the call draws this answer, leaves this output, and leads to this connection, as the definition has it
pub record Meets (call : Call) (before : Whole) (a : Verdict Answer) (out : List ℕ) (later : Whole) : Type 0 where
  pub draws : record { answer = a; output = out } ≡ seen (role_of before) (settings_of before) (view_of before) call
  pub leaves : view_of later ≡ next (role_of before) (settings_of before) (view_of before) call
  pub sound : Sound later

-- of a sound connection, it meets the definition; of any connection and tables, role, settings and the tables' length stay, and a refusal changes neither the connection nor a byte of tables and output
pub record Does (call : Call) (before : Whole) (a : Verdict Answer) (out : List ℕ) (later : Whole) : Type 0 where
  pub meets : Sound before → Meets call before a out later
  pub same : E.Same (endpoint_in before) (endpoint_in later)
  pub refused : (k : ℕ) → a ≡ refuse k → (later ≡ before) × (out ≡ lent call)

-- whether tables have a place for each channel that the peer may use
abbrev pub is_covered : Whole → Bool
is_covered w = covers (places_of w.connection.endpoint) w.tables

-- the output of a session's frame is judged before its tables
abbrev pub room_of : Call → Bool
room_of (M.send_header_to out) = true
room_of (M.receive_header_from s) = true
room_of (M.send_open_to out) = true
room_of (M.receive_frame s h) = true
room_of (M.send_close_to e out) = true
room_of (M.send_session_frame s out) = room_for 0 out
room_of (M.allocate h) = true
room_of (M.deallocate ch) = true
room_of (M.tick out) = true

-- the same of a call that is lent the tables: where its output is too short, it is 9, and else where they are, it is 8
pub record DoesIn (call : Call) (before : Whole) (a : Verdict Answer) (out : List ℕ) (later : Whole) : Type 0 where
  pub does : Does call before a out later
  pub roomless : room_of call ≡ false → a ≡ refuse 9
  pub uncovered : room_of call ≡ true → is_covered before ≡ false → a ≡ refuse 8

-- what is looked up, in tables that are long enough
pub record Looks (w : Whole) (found : Option ℕ) (a : Verdict (Option ℕ)) : Type 0 where
  pub looks : Sound w → a ≡ accept found
  pub looks_not : is_covered w ≡ false → a ≡ refuse 8

pub record Counts (w : Whole) (r : ℕ) : Type 0 where
  pub counts : Sound w → r ≡ taken_below (suc (settings_of w).channel_max) (view_of w).taken

-- ---- a new connection, and one that was kept

-- with these settings: fresh, and sound in its tables as they are now
pub record Begun (role : Role) (S : Settings) (w : Whole) : Type 0 where
  pub begun_role : role_of w ≡ role
  pub begun_settings : settings_of w ≡ S
  pub begun_fresh : view_of w ≡ fresh
  pub begun_sound : Sound w
  pub begun_counted : E.Counted w.connection.endpoint

abbrev pub made_says : Result Connection Refusal → Verdict (Unit {0})
made_says (Ok c) = accept tt
made_says (Err e) = refuse (number_of e)

-- 8 for settings beyond their limits and for tables that are too short; the tables are as they were then
pub record Makes (role : Role) (S : Settings) (t : List ℕ) (r : Result Connection Refusal) (t' : List ℕ) : Type 0 where
  pub checks : made_says r ≡ require 8 (allowed S && covers (suc S.channel_max) t) (λ _. accept tt)
  pub made : (c : Connection) → r ≡ Ok c → Begun role S (whole c t' S.container_id)
  pub refused : (e : Refusal) → r ≡ Err e → t' ≡ t
  pub made_long : length t' ≡ length t
  pub made_past : past (suc S.channel_max) t' ≡ past (suc S.channel_max) t

-- a connection in a state whose endpoint was kept
abbrev pub resumed_in : ConnectionState → Option Endpoint → Option Connection
resumed_in x (Some e) = Some (record { local_state = x; endpoint = e })
resumed_in x None = None

-- ---- between the private functions

-- the same connection in another state
abbrev pub moved_to : Connection → ConnectionState → Connection
moved_to c x = record { local_state = x; endpoint = c.endpoint }

-- in another state, if something was written
abbrev pub moved_if : Result ℕ Refusal → Connection → ConnectionState → Connection
moved_if (Ok n) c x = moved_to c x
moved_if (Err e) c x = c

-- a tick in a state
abbrev pub tick_of : State → List ℕ → Verdict Outcome
tick_of x out = require 9 (room_for 0 out) (λ _. ticked x)

pub record Beats (x : State) (a : Verdict Answer) (out out' : List ℕ) : Type 0 where
  pub beats : a ≡ answered (tick_of x out)
  pub beats_output : out' ≡ laid (written (tick_of x out)) out

-- what comes of a frame that has no performative
abbrev pub bare_says : F.Frame → Answer
bare_says (Empty ch size from) = nothing_to_do size
bare_says (Body ch size from p end) = nothing_to_do size

-- an answer and a connection, as a rule has it
pub record Reads (rule : Verdict Outcome) (before : Whole) (a : Verdict Answer) (later : Whole) : Type 0 where
  pub reads_says : Sound before → a ≡ answered rule
  pub reads_leaves : Sound before → view_of later ≡ after (settings_of before) rule (view_of before)
  pub reads_held : Sound before → E.Sound (endpoint_in later)
  pub reads_same : E.Same (endpoint_in before) (endpoint_in later)
  pub reads_refused : (k : ℕ) → a ≡ refuse k → later ≡ before

-- the same with whatever container-id; and where no tables are lent, in whatever tables
abbrev pub ReadsIn : (Whole → Verdict Outcome) → Connection → List ℕ → Verdict Answer → Connection → List ℕ → Type 0
ReadsIn rule c t a c' t' = (id : List ℕ) → Reads (rule (whole c t id)) (whole c t id) a (whole c' t' id)

abbrev pub ReadsBy : (Whole → Verdict Outcome) → Connection → Verdict Answer → Connection → Type 0
ReadsBy rule c a c' = (t : List ℕ) → ReadsIn rule c t a c' t

-- what an Open says
abbrev pub open_said : Settings → M.Connection → Frame → List ℕ → Verdict Outcome
open_said S c f [] = refuse 6
open_said S c f (size ∷ []) = refuse 6
open_said S c f (size ∷ most ∷ []) = refuse 6
open_said S c f (size ∷ most ∷ idle ∷ rest) = open_read S c f size most idle

-- a frame whose performative has this number and says these values
abbrev pub said_read : Role → Settings → M.Connection → Frame → ℕ → ℕ → List ℕ → Verdict Outcome
said_read role S c f h code values =
    cond (eqb code 24) (close_read c f (has_error values))
    (cond (is Discarding c.state) (says (nothing_to_do f.size) stay)
    (cond (eqb code 16) (open_said S c f values)
    (session_read role c f h code values)))
