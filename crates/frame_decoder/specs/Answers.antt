-- What each case of an answer says, and of what passes between the private functions.
-- Assumes nothing: these are definitions.
use Rattle.std.specs.Prelude.{ℕ, Bool, ◌&&◌, ◌||◌, cond, List, [], eqb, None, Some, Result, Ok, Err}
use Rattle.octets.specs.Verdict.{Verdict, refuse, accept, and_then}
use Rattle.octets.specs.Refusal.{number_of}
use Rattle.octets.specs.declared.Refusal.{Refusal}
use Rattle.performatives.specs.declared.Performative.{Performative}
use Rattle.performatives.specs.Performative.{Said, said}
use Rattle.performatives.specs.Answers.{performative_says}
use Rattle.frame_decoder.specs.declared.Frame as F
use Rattle.frame_decoder.specs.declared.Frame.TheVariants.{Empty, Body}
use Rattle.frame_decoder.specs.declared.Header.{Header}
use Rattle.frame_decoder.specs.Frame.{Frame, FrameSaid, read_frame, frame_said, is_session, within, session_performative, session_frame, session_said}

-- ---- what is to be answered

-- a frame that was read
unfoldable pub frame_answer : ℕ → ℕ → List ℕ → Verdict FrameSaid
frame_answer limit highest s = and_then (read_frame limit highest s) (λ r. accept (frame_said r))

-- a session's frame that is to be sent
unfoldable pub session_answer : ℕ → List ℕ → Verdict FrameSaid
session_answer highest s = and_then (session_frame highest s) (λ r. accept (session_said r))

-- ---- what an answer says

-- a performative that ends after so many bytes
abbrev pub ending_at : ℕ → Performative → Said
ending_at end p = record { code = (performative_says p).0; end = end; values = (performative_says p).1 }

-- an empty frame; a frame with a performative
abbrev pub shown : F.Frame → FrameSaid
shown (Empty channel size from) = record { size = size; channel = channel; from = from; content = None }
shown (Body channel size from p end) = record { size = size; channel = channel; from = from; content = Some (ending_at end p) }

-- a frame; a refusal's number
abbrev pub frame_says : Result F.Frame Refusal → Verdict FrameSaid
frame_says (Ok f) = accept (shown f)
frame_says (Err e) = refuse (number_of e)

-- ---- between the private functions

-- a frame by its header; a refusal's number
abbrev pub header_says : Result Header Refusal → Verdict Frame
header_says (Ok h) = accept (record { size = h.size; channel = h.channel; from = 8 })
header_says (Err e) = refuse (number_of e)

-- whether a session may send it, by whether it fills its frame's body
unfoldable pub may_send : Performative → Bool → Bool
may_send p whole = is_session (performative_says p).0 && (eqb (performative_says p).0 20 || whole)

-- whether a Begin's remote-channel is at most the highest channel
unfoldable pub begins_within : ℕ → Performative → Bool
begins_within highest p = within highest (cond (eqb (performative_says p).0 17) (performative_says p).1 [])

-- the frame of this channel and size, with a session's performative at the front of its body s
unfoldable pub session_body : ℕ → ℕ → ℕ → List ℕ → Verdict FrameSaid
session_body highest channel size s =
    and_then (session_performative highest s) (λ p. accept (record { size = size; channel = channel; from = 8; content = Some (said p) }))
