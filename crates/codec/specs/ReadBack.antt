-- What it means that a frame that was written is read back.
-- Assumes nothing: these are definitions.
use Rattle.std.specs.Prelude.{ℕ, ◌≤◌, ◌≡◌, true, List, [], ◌∷◌, ◌++◌, length, take, drop, Option, None, Some}
use Rattle.octets.specs.Verdict.{accept, accepts}
use Rattle.values.specs.Null.{null}
use Rattle.serializer.specs.Written.{text}
use Rattle.performatives.specs.Performative.{Performative, field, max_frame_size, channel_max, idle_time_out, condition}
use Rattle.frame_decoder.specs.Frame.{Frame, read_frame}
use Rattle.frame_encoder.specs.Frames.{frame_bytes, Settings, open_body, ErrorText, error_field, close_body}

-- a frame that was written, as a reader has it: it takes all the bytes
abbrev pub frame_of : ℕ → List ℕ → Frame
frame_of channel body = record { size = length (frame_bytes channel body); channel = channel; from = 8 }

-- a reader with this limit and this highest channel reads the frame, whatever stands after it, and finds a performative that says so
pub record ReadBack (limit highest channel : ℕ) (body after : List ℕ) (Says : Performative → Type 0) : Type 0 where
  pub found : Performative
  pub read : read_frame limit highest (frame_bytes channel body ++ after) ≡ accept (frame_of channel body, Some found)
  pub says : Says found

-- no idle-time-out counts as zero
abbrev pub millis : Option ℕ → ℕ
millis None = 0
millis (Some n) = n

-- an Open with these settings and no more
pub record OpenSays (s : Settings) (p : Performative) : Type 0 where
  pub code : p.code ≡ 16
  pub end : p.end ≡ length (open_body s)
  pub container_id_is : field 0 p ≡ text 0xa1 s.container_id
  pub hostname : field 1 p ≡ null
  pub max_frame_size_is : max_frame_size p ≡ s.max_frame_size
  pub channel_max_is : channel_max p ≡ s.channel_max
  pub idle_time_out_is : idle_time_out p ≡ millis s.idle_time_out
  pub others : (i : ℕ) → 5 ≤ i → field i p ≡ null

-- no condition; or the place and the length of one, which stands there
abbrev pub ConditionIn : List ℕ → Option ErrorText → List ℕ → Type 0
ConditionIn body None found = found ≡ []
ConditionIn body (Some e) found =
    (at : ℕ) × (found ≡ at ∷ length e.condition ∷ []) × (take (length e.condition) (drop at body) ≡ e.condition)

-- a Close with this error, or with none
pub record CloseSays (e : Option ErrorText) (p : Performative) : Type 0 where
  pub code : p.code ≡ 24
  pub end : p.end ≡ length (close_body e)
  pub error : field 0 p ≡ error_field e
  pub others : (i : ℕ) → 1 ≤ i → field i p ≡ null
  pub condition_in : ConditionIn (close_body e) e (condition 0 p)

-- a frame that a writer with this limit laid down: it is within the limit, and a reader with the same limit accepts it
pub record Passes (limit highest : ℕ) (bytes : List ℕ) : Type 0 where
  pub within : length bytes ≤ limit
  pub accepted : accepts (read_frame limit highest bytes) ≡ true
