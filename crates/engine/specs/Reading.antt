-- What the functions promise that take a frame.
-- Assumes nothing: these are definitions.
use Rattle.std.specs.Prelude.{◌≡◌, Bool, true, false, not, ◌&&◌, ◌||◌, List, [], ℕ, leb, length, Result, Ok}
use Rattle.octets.specs.Verdict.{Verdict, accept}
use Rattle.octets.specs.Output.{room_for}
use Rattle.octets.specs.declared.Refusal.{Refusal}
use Rattle.frame_decoder.specs.Frame.{size_of, read_frame, session_frames}
use Rattle.frame_encoder.specs.Frames.{Settings}
use Rattle.connection_state.specs.States.{State, CloseReceived, is}
use Rattle.connection_model.specs.Connection as K
use Rattle.connection_model.specs.Connection.{Role, Answer}
use Rattle.endpoint.specs.declared.FrameAnswer.{FrameAnswer}
use Rattle.connection.specs.View as View
use Rattle.engine_model.specs.Engine as M
use Rattle.engine_model.specs.Engine.{Landing, landing, is_close, is_stopped, frames_in}
use Rattle.engine.specs.declared.Landed.{Landed}
use Rattle.engine.specs.declared.OnIncoming.{OnIncoming}
use Rattle.engine.specs.Answers.{Whole, connection_in, engine_of, phase_says, goes_on}
use Rattle.engine.specs.Promises.{Keeps, LandedIn, Lands, awaited_by}

-- whether bytes of the frame are missing, which is the frame's own refusal 1
unfoldable pub lacks_bytes : ℕ → List ℕ → Bool
lacks_bytes limit s = not (leb 4 (length s)) || (leb 8 (size_of s) && (leb (size_of s) limit && not (leb (size_of s) (length s))))

-- a Close was read and answered so, and is answered in its turn
pub record Answered (a : Verdict Answer) (c : View.Whole) (n : ℕ) (w lent out : List ℕ) (r : LandedIn) : Type 0 where
  pub answered_keeps : Keeps c r.connection
  pub answered :
      View.Sound c → session_frames (View.settings_of c).channel_max w ≡ accept n → room_for (length w) lent ≡ true
      → Lands (M.answering (View.role_of c) (View.settings_of c) (frames_in n w) lent true a (View.view_of c)) lent out r

-- whether a frame is a Close and left the state x behind, so that it is answered
abbrev pub answers_close : ℕ → ℕ → List ℕ → State → Bool
answers_close limit highest s x = is_close (read_frame limit highest s) && is CloseReceived x

-- a frame was answered so and left the connection c behind, in a phase
abbrev pub read_by : Role → Settings → List (List ℕ) → List ℕ → Bool → M.Phase → Verdict Answer → K.Connection → Landing
read_by role S waiting lent close M.running a c = M.answering role S waiting lent close a c
read_by role S waiting lent close (M.awaiting o) a c = landing (awaited_by role o c.state a) c []
read_by role S waiting lent close (M.stopped o) a c = landing (M.stopped o) c []

pub record Took (e : Whole) (s : List ℕ) (a : Verdict Answer) (c : View.Whole) (n : ℕ) (w lent out : List ℕ) (r : LandedIn) : Type 0 where
  pub took_keeps : Keeps c r.connection
  pub took :
      View.Sound c → is_stopped (phase_says e.engine.phase) ≡ false → session_frames (View.settings_of c).channel_max w ≡ accept n → room_for (length w) lent ≡ true
      → Lands
      (read_by (View.role_of c) (View.settings_of c) (frames_in n w) lent
      (answers_close (View.view_of (connection_in e)).reading_limit (View.settings_of (connection_in e)).channel_max s (View.view_of c).state) (phase_says e.engine.phase) a (View.view_of c))
      lent out r

-- as it is answered
pub record Taken (l : Landed) (a : Result FrameAnswer Refusal) (consumed : ℕ) (r : OnIncoming) : Type 0 where
  pub taken_running : r.running ≡ Ok (goes_on l.phase)
  pub taken_consumed : r.consumed ≡ consumed
  pub taken_written : r.written ≡ l.written
  pub taken_answer : r.answer ≡ a
  pub taken_engine : r.engine ≡ engine_of l.phase l.connection
