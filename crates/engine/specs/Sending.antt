-- What the functions promise that send one thing after the other.
-- Assumes nothing: these are definitions.
use Rattle.std.specs.Prelude.{◌≡◌, Bool, true, ◌&&◌, List, [], ◌∷◌, ℕ, ◌+◌, ◌*◌, ◌≤◌, length, drop, leb, Option, Result, Ok, Err, option_map}
use Rattle.octets.specs.Verdict.{Verdict, accept, require}
use Rattle.octets.specs.Output.{room_for, laid}
use Rattle.octets.specs.declared.Refusal.{Refusal}
use Rattle.frame_decoder.specs.Frame.{session_frames}
use denote.Ref.{Bor}
use Rattle.frame_encoder.specs.declared.ErrorText as Code
use Rattle.frame_encoder.specs.Frames.{ErrorText}
use Rattle.frame_encoder.specs.Answers.{error_text}
use Rattle.connection_model.specs.Connection as K
use Rattle.connection_model.specs.Connection.{Call, send_session_frame}
use Rattle.endpoint.specs.Answers.{sent_says}
use Rattle.connection.specs.View as View
use Rattle.engine_model.specs.Engine as M
use Rattle.engine_model.specs.Engine.{is_running}
use Rattle.engine.specs.declared.Landed.{Landed}
use Rattle.engine.specs.declared.OnOutgoing.{OnOutgoing}
use Rattle.engine.specs.declared.Trailed.{Trailed}
use Rattle.connection.specs.Promises.{is_covered}
use Rattle.engine.specs.Answers.{Whole, connection_in, engine_of, settings_of, phase_says, goes_on, sent_count}
use Rattle.engine.specs.Promises.{Keeps, Lands}

-- session frames, each lent the whole output
abbrev pub sends_of : List (List ℕ) → List ℕ → List Call
sends_of [] out = []
sends_of (f ∷ fs) out = send_session_frame f out ∷ sends_of fs out

-- what the first n session frames of a slice come to
abbrev pub waiting_trail : View.Whole → ℕ → List ℕ → List ℕ → M.Trail
waiting_trail c n w lent = M.trail (View.role_of c) (View.settings_of c) (K.wrote 0) (View.view_of c) (sends_of (M.frames_in n w) lent)

-- what came of frames that were sent one after the other, with what the connection is lent
pub record TrailedIn : Type 0 where
  pub answer : Result ℕ Refusal
  pub written : ℕ
  pub connection : View.Whole

abbrev pub trailed_in : Trailed → List ℕ → List ℕ → TrailedIn
trailed_in r t id = record { answer = r.answer; written = r.written; connection = View.whole r.connection t id }

-- the last answer, the connection and the bytes in front of the output are those of the trail; there is room left for one more frame
pub record Drained (t : M.Trail) (lent out : List ℕ) (r : TrailedIn) : Type 0 where
  pub drained_last : sent_says r.answer ≡ t.last
  pub drained_connection : View.view_of r.connection ≡ t.connection
  pub drained_count : r.written ≡ length t.bytes
  pub drained_output : out ≡ laid (accept t.bytes) lent
  pub drained_room : 16384 + r.written ≤ length lent

-- of a sound connection, where the slice is n session frames and the output has room for them
pub record Drains (c : View.Whole) (n : ℕ) (w lent out : List ℕ) (r : TrailedIn) : Type 0 where
  pub drains_keeps : Keeps c r.connection
  pub drains_inside : r.written ≤ length out
  pub drains : View.Sound c → session_frames (View.settings_of c).channel_max w ≡ accept n → room_for (length w) lent ≡ true → Drained (waiting_trail c n w lent) lent out r

-- ---- the last of what goes out

-- the last answer, the connection and the bytes in front of the output are those of the trail, so many of them from before the last call; a refusal leaves room for a Close
pub record Trails (t : M.Trail) (lent out : List ℕ) (a : Result ℕ Refusal) (n : ℕ) (c : View.Whole) : Type 0 where
  pub trails_last : sent_says a ≡ t.last
  pub trails_connection : View.view_of c ≡ t.connection
  pub trails_count : n + sent_count a ≡ length t.bytes
  pub trails_output : out ≡ laid (accept t.bytes) lent
  pub trails_inside : n + sent_count a ≤ length out
  pub trails_room : (e : Refusal) → a ≡ Err e → room_for 0 (drop n out) ≡ true

-- where nothing was refused
abbrev pub settles : K.Connection → List ℕ → M.Landing
settles c bytes = M.landing (M.settled c.state) c bytes

-- where the error path led, after a refusal
abbrev pub outgoing_from : Landed → Refusal → OnOutgoing
outgoing_from l e = record { running = Ok (goes_on l.phase); written = l.written; answer = Err e; engine = engine_of l.phase l.connection }

-- the event lands where the definition has it land after the trail: the last call answered a and left the connection c, and the engine afterwards is e
pub record GoesOut (a : Result ℕ Refusal) (c : View.Whole) (n : ℕ) (out out' : List ℕ) (r : OnOutgoing) (e : Whole) : Type 0 where
  pub goes_keeps : Keeps c (connection_in e)
  pub goes_running : r.running ≡ Ok (goes_on e.engine.phase)
  pub goes_answer : r.answer ≡ a
  pub goes :
      View.Sound c → (t : M.Trail) (lent : List ℕ) → room_for 0 lent ≡ true → Trails t lent out a n c
      → Lands (M.onward (View.role_of c) (View.settings_of c) lent settles t) lent out' (record { phase = e.engine.phase; written = r.written; connection = connection_in e })

-- ---- a close order

-- its refusals, or how many frames wait to be sent; whether its error is fine, and how long the lent output is
abbrev pub ordered : Whole → Bool → List ℕ → ℕ → Verdict ℕ
ordered e fine w output =
    require 9 (leb (16384 + 2 * length w) output) (λ _.
    require 8 (fine && is_covered (connection_in e)) (λ _.
    require 20 (is_running (phase_says e.engine.phase)) (λ _.
    session_frames (settings_of e).channel_max w)))

-- the error of a Close, if it has one
abbrev pub error_if : Option (Bor Code.ErrorText) → Option ErrorText
error_if error = option_map (λ e. error_text e.now) error
