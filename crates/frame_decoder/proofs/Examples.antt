-- Frames, and what is answered when they are read or are to be sent.
-- Assumes nothing.
use mathlib.Core.Path.{◌≡◌, refl}
use Prim.Native.Nat.{ℕ}
use mathlib.Core.List.{List, [], ◌∷◌, ◌++◌}
use Rattle.std.specs.Prelude.{None}
use Rattle.octets.specs.Verdict.{refuse, accept, require, and_then}
use Rattle.octets.specs.Octets.{big_endian, big_endian_from, starts_with}
use Rattle.values.specs.Value.{plus, times, followed_by, codes, kind_in, kind_of, bytes, number_in, boolean_end, variable_end, paired_in, opening, items, compound_end, body, after_code, level, run, value_end}
use Rattle.performatives.specs.Fields.{fields_in, fields_of}
use Rattle.performatives.specs.Performative.{number_of, sized, list_at, descriptor, described, split, has_type, fits, fit, fields_by, rows_for, performative_by, performative, remote_channel}
use Rattle.frame_decoder.specs.Frame.{frame, body_in, content, read_frame, session_performative, session_frame, frames_up_to, session_frames}

-- ---- read, with a limit of 512

pub empty_frame : read_frame 512 0 (0x00 ∷ 0x00 ∷ 0x00 ∷ 0x08 ∷ 0x02 ∷ 0x00 ∷ 0x00 ∷ 0x00 ∷ []) ≡ accept (record { size = 8; channel = 0; from = 8 }, None)
unfolding read_frame frame body_in content require and_then big_endian big_endian_from
empty_frame = refl

pub length_7 : read_frame 512 0 (0x00 ∷ 0x00 ∷ 0x00 ∷ 0x07 ∷ 0x02 ∷ 0x00 ∷ 0x00 ∷ 0x00 ∷ []) ≡ refuse 3
unfolding read_frame frame require and_then big_endian big_endian_from
length_7 = refl

pub length_512 : read_frame 512 0 (0x00 ∷ 0x00 ∷ 0x02 ∷ 0x00 ∷ 0x02 ∷ 0x00 ∷ 0x00 ∷ 0x00 ∷ []) ≡ refuse 1
unfolding read_frame frame require and_then big_endian big_endian_from
length_512 = refl

pub length_513 : read_frame 512 0 (0x00 ∷ 0x00 ∷ 0x02 ∷ 0x01 ∷ 0x02 ∷ 0x00 ∷ 0x00 ∷ 0x00 ∷ []) ≡ refuse 4
unfolding read_frame frame require and_then big_endian big_endian_from
length_513 = refl

pub length_7_in_4_bytes : read_frame 512 0 (0x00 ∷ 0x00 ∷ 0x00 ∷ 0x07 ∷ []) ≡ refuse 3
unfolding read_frame frame require and_then big_endian big_endian_from
length_7_in_4_bytes = refl

-- type 1, and on channel 9
pub type_before_channel : read_frame 512 7 (0x00 ∷ 0x00 ∷ 0x00 ∷ 0x08 ∷ 0x02 ∷ 0x01 ∷ 0x00 ∷ 0x09 ∷ []) ≡ refuse 5
unfolding read_frame frame require and_then big_endian big_endian_from
type_before_channel = refl

-- channel 9, and a malformed body
pub channel_before_body : read_frame 512 7 (0x00 ∷ 0x00 ∷ 0x00 ∷ 0x09 ∷ 0x02 ∷ 0x00 ∷ 0x00 ∷ 0x09 ∷ 0xFF ∷ []) ≡ refuse 7
unfolding read_frame frame require and_then big_endian big_endian_from
channel_before_body = refl

-- ---- to be sent, with a highest channel of 7

-- an Attach on channel 9
abbrev attach : List ℕ
attach = 0x00 ∷ 0x00 ∷ 0x00 ∷ 0x0C ∷ 0x02 ∷ 0x00 ∷ 0x00 ∷ 0x09 ∷ 0x00 ∷ 0x53 ∷ 0x12 ∷ 0x45 ∷ []

-- the same with a byte after its performative
abbrev attach_and_more : List ℕ
attach_and_more = 0x00 ∷ 0x00 ∷ 0x00 ∷ 0x0D ∷ 0x02 ∷ 0x00 ∷ 0x00 ∷ 0x09 ∷ 0x00 ∷ 0x53 ∷ 0x12 ∷ 0x45 ∷ 0x00 ∷ []

-- a Transfer with a payload of one byte
abbrev transfer : List ℕ
transfer = 0x00 ∷ 0x00 ∷ 0x00 ∷ 0x0D ∷ 0x02 ∷ 0x00 ∷ 0x00 ∷ 0x09 ∷ 0x00 ∷ 0x53 ∷ 0x14 ∷ 0x45 ∷ 0x00 ∷ []

-- a Begin with remote-channel r
abbrev begin : ℕ → List ℕ
begin r = 0x00 ∷ 0x00 ∷ 0x00 ∷ 0x14 ∷ 0x02 ∷ 0x00 ∷ 0x00 ∷ 0x09 ∷ 0x00 ∷ 0x53 ∷ 0x11 ∷ 0xC0 ∷ 0x07 ∷ 0x04 ∷ 0x60 ∷ 0x00 ∷ r ∷ 0x43 ∷ 0x43 ∷ 0x43 ∷ []

-- an Open
abbrev open_frame : List ℕ
open_frame = 0x00 ∷ 0x00 ∷ 0x00 ∷ 0x11 ∷ 0x02 ∷ 0x00 ∷ 0x00 ∷ 0x00 ∷ 0x00 ∷ 0x53 ∷ 0x10 ∷ 0xC0 ∷ 0x04 ∷ 0x01 ∷ 0xA1 ∷ 0x01 ∷ 0x70 ∷ []

-- an empty frame
abbrev empty : List ℕ
empty = 0x00 ∷ 0x00 ∷ 0x00 ∷ 0x08 ∷ 0x02 ∷ 0x00 ∷ 0x00 ∷ 0x00 ∷ []

pub sent : (
    session_frames 7 attach
    ∷ session_frames 7 attach_and_more
    ∷ session_frames 7 transfer
    ∷ session_frames 7 (begin 7)
    ∷ session_frames 7 (begin 8)
    ∷ session_frames 7 open_frame
    ∷ session_frames 7 empty
    ∷ session_frames 7 (attach ++ transfer ++ attach)
    ∷ session_frames 7 (attach ++ begin 8 ++ empty)
    ∷ []
    )
    ≡ accept 1 ∷ refuse 6 ∷ accept 1 ∷ accept 1 ∷ refuse 7 ∷ refuse 6 ∷ refuse 6 ∷ accept 3 ∷ refuse 7 ∷ []
unfolding session_frames frames_up_to session_frame frame body_in session_performative require and_then big_endian big_endian_from starts_with plus times followed_by codes kind_in kind_of bytes number_in boolean_end variable_end paired_in opening items compound_end body after_code level run value_end fields_in fields_of number_of sized list_at descriptor described split has_type fits fit fields_by rows_for performative_by performative remote_channel
sent = refl
