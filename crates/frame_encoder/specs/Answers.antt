-- What the arguments of the code stand for.
-- Assumes nothing: these are definitions.
use Rattle.std.specs.Prelude.{ℕ, ◌+◌, ◌≤◌, length, List, ◌≡◌, Some, option_copied}
use Rattle.serializer.specs.Written.{joined, trimmed, composite_header}
use Rattle.frame_encoder.specs.declared.Settings as Code
use Rattle.frame_encoder.specs.declared.ErrorText as CodeError
use Rattle.frame_encoder.specs.Frames.{Settings, ErrorText, error_fields}

abbrev pub settings_say : Code.Settings → Settings
settings_say s =
    record { container_id = s.container_id.now; max_frame_size = s.max_frame_size; channel_max = s.channel_max; idle_time_out = s.idle_time_out }

abbrev pub error_text : CodeError.ErrorText → ErrorText
error_text e = record { condition = e.condition.now; description = option_copied e.description }

-- how many fields are left when trailing nulls are dropped, and how many bytes they take: few
pub record Sized (fs : List (List ℕ)) (count size : ℕ) : Type 0 where
  pub counts : count ≡ length (trimmed fs)
  pub sizes : size ≡ length (joined (trimmed fs))
  pub small : size ≤ 1000

-- the same of an error's fields
pub record ErrorSized (e : ErrorText) (count size : ℕ) : Type 0 where
  pub counts : count ≡ length (trimmed (error_fields e))
  pub sizes : size ≡ length (joined (trimmed (error_fields e)))
  pub small : size ≤ 600

-- a condition, and a description if there is one, of at most 255 bytes
pub record Short (e : ErrorText) : Type 0 where
  pub condition_short : length e.condition ≤ 255
  pub description_short : (d : List ℕ) → e.description ≡ Some d → length d ≤ 255

-- there is room for an error, whose fields have been counted, at a place of a buffer
pub record ErrorRoom (e : ErrorText) (count size at room : ℕ) : Type 0 where
  pub sized : ErrorSized e count size
  pub fit : at + length (composite_header 29 count size) + size ≤ room
