-- What the events of an engine promise.
-- Assumes nothing: these are definitions.
use Rattle.std.specs.Prelude.{◌≡◌, Bool, true, false, cond, ◌||◌, List, ℕ, eqb, length, drop, Option, None, Some, Result, Ok, Err}
use Rattle.octets.specs.Verdict.{Verdict, refuse, accept}
use Rattle.octets.specs.Output.{room_for, laid}
use Rattle.octets.specs.declared.Refusal.{Refusal}
use Rattle.connection_state.specs.States.{State}
use Rattle.connection_state.specs.Answers.{state_says}
use Rattle.connection.specs.declared.Connection.{Connection}
use Rattle.engine_model.specs.Engine.{Event, Reply, seen, next, lent, has_room}
use Rattle.frame_encoder.specs.Frames.{Settings}
use Rattle.connection_model.specs.Connection.{Role, Answer, send_close_to}
use Rattle.connection.specs.Promises as C
use Rattle.endpoint.specs.Promises as E
use Rattle.connection.specs.View as View
use Rattle.engine_model.specs.Engine as M
use Rattle.engine_model.specs.Phases.{goes_with}
use Rattle.engine.specs.declared.ConnectionEngine.{ConnectionEngine}
use Rattle.engine.specs.declared.Landed.{Landed}
use Rattle.engine.specs.declared.OnError.{OnError}
use Rattle.engine.specs.declared.Phase.{Phase}
use Rattle.engine.specs.declared.Phase.TheVariants.{Running}
use Rattle.engine.specs.Answers.{Whole, engine_of, connection_in, role_of, settings_of, view_of, Sound, phase_says, goes_on}

-- the event draws this reply, leaves this output, and leads to this engine, as the definition has it
pub record Meets (event : Event) (before : Whole) (r : Verdict Reply) (out : List ℕ) (later : Whole) : Type 0 where
  pub draws : record { reply = r; output = out } ≡ seen (role_of before) (settings_of before) (view_of before) event
  pub leaves : view_of later ≡ next (role_of before) (settings_of before) (view_of before) event
  pub sound : Sound later

-- of a sound engine, it meets the definition; of any engine and tables, role, settings and the tables' length stay, and a refusal changes neither the engine nor a byte of tables and output
pub record Does (event : Event) (before : Whole) (r : Verdict Reply) (out : List ℕ) (later : Whole) : Type 0 where
  pub meets : Sound before → Meets event before r out later
  pub same : E.Same (View.endpoint_in (connection_in before)) (View.endpoint_in (connection_in later))
  pub refused : (k : ℕ) → r ≡ refuse k → (later ≡ before) × (out ≡ lent event)

-- the same of an event that is lent the tables: where its output is too short, it is 9, and else where they are, it is 8
pub record DoesIn (event : Event) (before : Whole) (r : Verdict Reply) (out : List ℕ) (later : Whole) : Type 0 where
  pub does : Does event before r out later
  pub roomless : has_room event ≡ false → r ≡ refuse 9
  pub uncovered : has_room event ≡ true → C.is_covered (connection_in before) ≡ false → r ≡ refuse 8

-- a new engine runs, with a new connection
abbrev pub new_in : Result ConnectionEngine Refusal → Result Connection Refusal
new_in (Ok e) = Ok e.connection
new_in (Err e) = Err e

pub record Makes (role : Role) (S : Settings) (t : List ℕ) (r : Result ConnectionEngine Refusal) (t' : List ℕ) : Type 0 where
  pub made : C.Makes role S t (new_in r) t'
  pub runs : (e : ConnectionEngine) → r ≡ Ok e → e.phase ≡ Running

-- an engine that was kept, if its phase goes with its connection's state
abbrev pub resumed_as : Phase → Connection → Option ConnectionEngine
resumed_as p c = cond (goes_with (phase_says p) (state_says c.local_state)) (Some (engine_of p c)) None

-- ---- between the private functions

-- an engine that runs, with a connection that was made
pub record Runs (made : Result Connection Refusal) (r : Result ConnectionEngine Refusal) : Type 0 where
  pub runs_with : new_in r ≡ made
  pub runs_first : (e : ConnectionEngine) → r ≡ Ok e → e.phase ≡ Running

-- a connection that an event left so: over, or to go on
pub record Settles (c : Connection) (e : ConnectionEngine) : Type 0 where
  pub settles : phase_says e.phase ≡ M.settled (state_says c.local_state)
  pub settles_with : e.connection ≡ c

-- where an event leaves the connection with what it is lent
pub record LandedIn : Type 0 where
  pub phase : Phase
  pub written : ℕ
  pub connection : View.Whole

abbrev pub landed_in : Landed → List ℕ → List ℕ → LandedIn
landed_in l t id = record { phase = l.phase; written = l.written; connection = View.whole l.connection t id }

-- the peer is told of an error, if there is one to be told
abbrev pub SendsError : Option M.Fault → View.Whole → Verdict Answer → List ℕ → List ℕ → View.Whole → Type 0
SendsError None c a out out' d = (a ≡ refuse 27) × (d ≡ c) × (out' ≡ out)
SendsError (Some f) c a out out' d = C.Does (send_close_to (Some f.error) out) c a out' d

-- the phase where a Close with an error was refused with k
abbrev pub not_closed : ℕ → M.Outcome → State → M.Phase
not_closed k o x = cond (eqb k 20) (M.unclosed o x) (M.stopped M.transport_error)

-- the engine is where the definition leaves it, and the bytes stand in front of the output as it was lent
pub record Lands (l : M.Landing) (lent out : List ℕ) (r : LandedIn) : Type 0 where
  pub lands_phase : phase_says r.phase ≡ l.phase
  pub lands_connection : View.view_of r.connection ≡ l.connection
  pub lands_count : r.written ≡ length l.bytes
  pub lands_output : out ≡ laid (accept l.bytes) lent

-- the same role, settings and tables' length, and soundness as before
pub record Keeps (c d : View.Whole) : Type 0 where
  pub keeps_same : E.Same (View.endpoint_in c) (View.endpoint_in d)
  pub keeps_sound : View.Sound c → View.Sound d

-- the error path, where n bytes are written already: `bytes` of them, over the lent output
pub record Fails (f : Option M.Fault) (c : View.Whole) (n : ℕ) (out out' : List ℕ) (r : LandedIn) : Type 0 where
  pub fails_keeps : Keeps c r.connection
  pub fails : View.Sound c → (bytes lent : List ℕ) → n ≡ length bytes → out ≡ laid (accept bytes) lent → room_for 0 lent ≡ true → room_for 0 (drop n out) ≡ true → Lands (M.fail (View.role_of c) (View.settings_of c) f (View.view_of c) bytes lent) lent out' r

-- the input ends while the engine runs
pub record Ends (c : View.Whole) (out out' : List ℕ) (r : LandedIn) : Type 0 where
  pub ends_keeps : Keeps c r.connection
  pub ends : View.Sound c → room_for 0 out ≡ true → Lands (M.input_ends (View.role_of c) (View.settings_of c) out (View.view_of c) M.running) out out' r

-- what the error path did, as it is answered
pub record Handled (l : Landed) (r : OnError) : Type 0 where
  pub handled_running : r.running ≡ Ok (goes_on l.phase)
  pub handled_written : r.written ≡ l.written
  pub handled_engine : r.engine ≡ record { phase = l.phase; connection = l.connection }

-- how many bytes of a frame of a size are consumed
abbrev pub consumed_for : Verdict Answer → ℕ → ℕ
consumed_for (refuse k) size = cond (eqb k 3 || eqb k 4) 0 size
consumed_for (accept a) size = size

-- a frame was answered so while the peer's Close is awaited, and the state is x
abbrev pub awaited_by : Role → M.Outcome → State → Verdict Answer → M.Phase
awaited_by role o x (refuse k) = M.stopped (M.outcome_of (M.read_fault role k))
awaited_by role o x (accept a) = M.phase_awaited o (M.close_in a) x

-- a frame was answered so and led to the state x; n bytes are written already
pub record LeadsTo (x : State) (a : Verdict Answer) (c : View.Whole) (n : ℕ) (out out' : List ℕ) (r : LandedIn) : Type 0 where
  pub leads_keeps : Keeps c r.connection
  pub leads_to : View.Sound c → (bytes lent : List ℕ) → n ≡ length bytes → out ≡ laid (accept bytes) lent → room_for 0 lent ≡ true → room_for 0 (drop n out) ≡ true → Lands (M.read_to (View.role_of c) (View.settings_of c) lent x a (View.view_of c) bytes) lent out' r
