-- Frames written: Part 2 section 2.3 and document 01. Each rule answers with the bytes to be written; refusals in the order of document 01.
-- Assumes nothing: these are definitions.
use Rattle.std.specs.Prelude.{ℕ, ◌+◌, Bool, true, ◌&&◌, List, [], ◌∷◌, ◌++◌, length, leb, Option, None, Some}
use Rattle.octets.specs.Verdict.{Verdict, accept, require}
use Rattle.octets.specs.Octets.{bytes_of}
use Rattle.octets.specs.Output.{room_for}
use Rattle.text.specs.Utf8.{utf8}
use Rattle.text.specs.Ascii.{ascii}
use Rattle.values.specs.Null.{null}
use Rattle.serializer.specs.Written.{uint, ushort, text, composite}

-- the frame's size, doff 2, type 0, channel
unfoldable pub frame_header : ℕ → ℕ → List ℕ
frame_header size channel = bytes_of 4 size ++ (2 ∷ 0 ∷ bytes_of 2 channel)

unfoldable pub frame_bytes : ℕ → List ℕ → List ℕ
frame_bytes channel body = frame_header (8 + length body) channel ++ body

-- 27 where the frame is over the writing limit; no writing limit is above 16,384
unfoldable pub limited : ℕ → List ℕ → Verdict (List ℕ)
limited limit bytes = require 27 (leb (length bytes) limit && leb (length bytes) 16384) (λ _. accept bytes)

-- 9, 8, 27: a frame that is made of settings or of an error's text
unfoldable pub write_frame : Bool → ℕ → List ℕ → List ℕ → Verdict (List ℕ)
write_frame ok limit bytes out =
    require 9 (room_for 0 out) (λ _.
    require 8 ok (λ _.
    limited limit bytes))

-- ---- Open

pub record Settings : Type 0 where
  pub container_id : List ℕ
  pub max_frame_size : ℕ
  pub channel_max : ℕ
  pub idle_time_out : Option ℕ

-- a container-id of at most 255 bytes in UTF-8, a max-frame-size from 512 to 16,384, a channel-max of at most 65,535
unfoldable pub settings_ok : List ℕ → ℕ → ℕ → Bool
settings_ok container_id max_frame_size channel_max =
    leb (length container_id) 255 && (utf8 container_id
    && (leb 512 max_frame_size && (leb max_frame_size 16384 && leb channel_max 65535)))

unfoldable pub idle_field : Option ℕ → List ℕ
idle_field None = null
idle_field (Some n) = uint n

-- what is left of it when it is the last field
unfoldable pub idle_kept : Option ℕ → List ℕ
idle_kept None = []
idle_kept (Some n) = uint n

-- container-id, hostname, max-frame-size, channel-max, idle-time-out
unfoldable pub open_fields : Settings → List (List ℕ)
open_fields s = text 0xa1 s.container_id ∷ null ∷ uint s.max_frame_size ∷ ushort s.channel_max ∷ idle_field s.idle_time_out ∷ []

abbrev pub open_body : Settings → List ℕ
open_body s = composite 16 (open_fields s)

unfoldable pub write_open : Settings → ℕ → List ℕ → Verdict (List ℕ)
write_open s limit out =
    write_frame (settings_ok s.container_id s.max_frame_size s.channel_max) limit (frame_bytes 0 (open_body s)) out

-- ---- Close

pub record ErrorText : Type 0 where
  pub condition : List ℕ
  pub description : Option (List ℕ)

abbrev pub description_ok : Option (List ℕ) → Bool
description_ok None = true
description_ok (Some d) = leb (length d) 255 && utf8 d

unfoldable pub error_ok : ErrorText → Bool
error_ok e = leb (length e.condition) 255 && (ascii e.condition && description_ok e.description)

unfoldable pub description_field : Option (List ℕ) → List ℕ
description_field None = null
description_field (Some d) = text 0xa1 d

-- condition, description
unfoldable pub error_fields : ErrorText → List (List ℕ)
error_fields e = text 0xa3 e.condition ∷ description_field e.description ∷ []

unfoldable pub error_field : Option ErrorText → List ℕ
error_field None = null
error_field (Some e) = composite 29 (error_fields e)

abbrev pub close_ok : Option ErrorText → Bool
close_ok None = true
close_ok (Some e) = error_ok e

abbrev pub close_body : Option ErrorText → List ℕ
close_body e = composite 24 (error_field e ∷ [])

unfoldable pub write_close : Option ErrorText → ℕ → List ℕ → Verdict (List ℕ)
write_close e limit out = write_frame (close_ok e) limit (frame_bytes 0 (close_body e)) out

-- ---- an empty frame

unfoldable pub write_empty : ℕ → List ℕ → Verdict (List ℕ)
write_empty limit out = write_frame true limit (frame_bytes 0 []) out
