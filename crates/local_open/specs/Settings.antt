-- The settings of a connection: which are taken (documents 01, "The connection's calls", and 02, wish 9).
-- Assumes nothing: these are definitions.
use Rattle.std.specs.Prelude.{ℕ, Bool, List, Result, Ok, Err}
use Rattle.octets.specs.Verdict.{Verdict, refuse, accept, require}
use Rattle.octets.specs.Refusal.{number_of}
use Rattle.octets.specs.declared.Refusal.{Refusal}
use Rattle.frame_encoder.specs.Frames.{Settings, settings_ok}
use Rattle.local_open.specs.declared.LocalOpen.{LocalOpen}

-- within their limits
abbrev pub allowed : Settings → Bool
allowed S = settings_ok S.container_id S.max_frame_size S.channel_max

-- 8 for settings beyond their limits
abbrev pub checked : Settings → Verdict Settings
checked S = require 8 (allowed S) (λ _. accept S)

-- ---- what the values stand for, with the container-id

abbrev pub open_says : List ℕ → LocalOpen → Settings
open_says id o = record { container_id = id; max_frame_size = o.max_frame_size; channel_max = o.channel_max; idle_time_out = o.idle_time_out }

abbrev pub new_says : List ℕ → Result LocalOpen Refusal → Verdict Settings
new_says id (Ok o) = accept (open_says id o)
new_says id (Err e) = refuse (number_of e)
