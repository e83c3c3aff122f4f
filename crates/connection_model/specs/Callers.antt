-- Which calls a caller can pass: slices of bytes that memory can hold, handles of 32 bits, channel numbers of 16.
-- Assumes nothing: these are definitions.
use Rattle.std.specs.Prelude.{◌≡◌, Bool, true, ◌&&◌, List, [], ◌∷◌, ℕ, ltb, length, Option, None, Some}
use Rattle.frame_encoder.specs.Frames.{ErrorText}
use Rattle.connection_model.specs.Connection.{Call, send_header_to, receive_header_from, send_open_to, receive_frame, send_close_to, send_session_frame, allocate, deallocate, tick}

abbrev pub are_bytes : List ℕ → Bool
are_bytes [] = true
are_bytes (b ∷ s) = ltb b 256 && are_bytes s

-- a slice has fewer than 2 ^ 63 bytes
abbrev pub is_slice : List ℕ → Bool
is_slice s = are_bytes s && ltb (length s) 9223372036854775808

abbrev pub is_handle : ℕ → Bool
is_handle h = ltb h 4294967296

abbrev pub is_channel : ℕ → Bool
is_channel ch = ltb ch 65536

abbrev pub may_slice : Option (List ℕ) → Bool
may_slice None = true
may_slice (Some s) = is_slice s

abbrev pub may_text : Option ErrorText → Bool
may_text None = true
may_text (Some e) = is_slice e.condition && may_slice e.description

-- lent output, too, is a slice of bytes
abbrev pub is_valid : Call → Bool
is_valid (send_header_to out) = is_slice out
is_valid (receive_header_from s) = is_slice s
is_valid (send_open_to out) = is_slice out
is_valid (receive_frame s h) = is_slice s && is_handle h
is_valid (send_close_to e out) = may_text e && is_slice out
is_valid (send_session_frame s out) = is_slice s && is_slice out
is_valid (allocate h) = is_handle h
is_valid (deallocate ch) = is_channel ch
is_valid (tick out) = is_slice out

abbrev pub are_valid : List Call → Bool
are_valid [] = true
are_valid (call ∷ calls) = is_valid call && are_valid calls

-- a list of calls that a caller can pass
abbrev pub Valid : List Call → Type 0
Valid calls = are_valid calls ≡ true
