-- The frames of the probing calls: what is read of a whole frame on a channel, and of one that is to be sent, by its body; and what is read of a frame's first four bytes.
-- Assumes nothing.
use mathlib.Core.Path.{◌≡◌, refl, ap, ◌∙◌}
use mathlib.Core.Bool.{Bool, true, false, cond}
use mathlib.Core.List.{List, [], ◌∷◌}
use Rattle.std.specs.Prelude.{Option, Some}
use Prim.Native.Nat.{ℕ, ◌+◌, ◌-◌, ◌<◌, ◌≤◌}
use native.Mathlib.Omega.{arith}
use lib.Dec.{leb}
use lib.ListN.{length, get_or}
use lib.Seq.{take-length, take_all}
use borrow.Author.Tests.{le-leb, lt-leb}
use Rattle.octets.specs.Verdict.{refuse, accept, require, and_then}
use Rattle.octets.specs.Octets.{big_endian_from, big_endian, bytes_of, starts_with}
use Rattle.octets.proofs.Laws.{then_refuse, length_bytes_of}
use Rattle.values.specs.Value.{plus, followed_by, times, codes, kind_in, kind_of, bytes, number_in, variable_end, body, after_code, level, run, value_end, list, opening, paired_in}
use Rattle.values.proofs.Apart.{number_is, opening_is}
use Rattle.values.proofs.Written.{bytes_number, fixed_whole}
use Rattle.performatives.specs.Fields.{fields_in, fields_of}
use Rattle.performatives.specs.Performative.{number_of, sized, descriptor, list_at, described, split, has_type, fits, fit, fields_by, Performative, rows_for, performative_by, performative}
use Rattle.frame_decoder.specs.Frame.{Frame, size_of, channel_of, frame, body_in, content, read_frame, any_size, any_channel, session_performative, session_frame}
use Rattle.serializer.specs.Written.{list_header, joined, trimmed, composite_header, composite}
use Rattle.frame_encoder.specs.Frames.{frame_header, frame_bytes}
use Rattle.frame_encoder.proofs.Laws.{length_frame}
use Rattle.session_frame.specs.Session.{shortest, written_as, written_fields, performative_written, session_bytes}

-- ---- a whole frame

abbrev pub framed : ℕ → ℕ → Frame
framed n ch = record { size = n; channel = ch; from = 8 }

frame_is : (limit highest : ℕ) (s : List ℕ) (n ch : ℕ) → size_of s ≡ n → channel_of s ≡ ch → get_or s 4 0 ≡ 2 → get_or s 5 0 ≡ 0
    → 8 ≤ n → n ≤ limit → n ≤ length s → ch ≤ highest → frame limit highest s ≡ accept (framed n ch)
unfolding frame require
frame_is limit highest s n ch e g a b low fits whole held =
    let l : 4 ≤ length s = omega arith in
    rw (le-leb 4 (length s) l, e, le-leb 8 n low, le-leb n limit fits, le-leb n (length s) whole, a, b, g, le-leb ch highest held)

module _ (ch : ℕ) (b : List ℕ) (short : 8 + length b < 4294967296) (low : ch < 65536) where
  size_is : size_of (frame_bytes ch b) ≡ 8 + length b
  unfolding frame_bytes frame_header bytes_of
  size_is = bytes_number 4 (8 + length b) short

  channel_is : channel_of (frame_bytes ch b) ≡ ch
  unfolding frame_bytes frame_header bytes_of
  channel_is = bytes_number 2 ch low

  doff_is : get_or (frame_bytes ch b) 4 0 ≡ 2
  unfolding frame_bytes frame_header bytes_of
  doff_is = refl

  type_is : get_or (frame_bytes ch b) 5 0 ≡ 0
  unfolding frame_bytes frame_header bytes_of
  type_is = refl

  body_is : body_in (framed (8 + length b) ch) (frame_bytes ch b) ≡ b
  unfolding body_in frame_bytes frame_header bytes_of
  body_is = let k : (8 + length b) - 8 ≡ length b = omega arith in rw k (take-length b)

  pub whole_frame : (limit highest : ℕ) → 8 + length b ≤ limit → ch ≤ highest → frame limit highest (frame_bytes ch b) ≡ accept (framed (8 + length b) ch)
  whole_frame limit highest fits held =
      frame_is limit highest (frame_bytes ch b) (8 + length b) ch size_is channel_is doff_is type_is (omega arith) fits (omega (arith, length_frame ch b)) held

  -- a frame that is read
  pub read_whole : (limit highest : ℕ) (p : Option Performative) → content b ≡ accept p → 8 + length b ≤ limit → ch ≤ highest → read_frame limit highest (frame_bytes ch b) ≡ accept (framed (8 + length b) ch, p)
  unfolding read_frame and_then
  read_whole limit highest p e fits held = rw (whole_frame limit highest fits held, body_is, e)

  -- a session's frame that is to be sent
  pub sent_whole : (highest : ℕ) (p : Performative) → session_performative highest b ≡ accept p → session_frame highest (frame_bytes ch b) ≡ accept (framed (8 + length b) ch, p)
  unfolding session_frame and_then
  sent_whole highest p e = rw (whole_frame any_size any_channel (omega arith) (omega arith), body_is, e)

-- of the first four bytes of a frame: it is too long, or the rest is missing
module _ (limit highest n : ℕ) (low : 8 ≤ n) (high : n < 4294967296) where
  length_is : size_of (bytes_of 4 n) ≡ n
  length_is = ap big_endian (take_all 4 (bytes_of 4 n) (omega (arith, length_bytes_of 4 n))) ∙ bytes_number 4 n high

  length_at : (t : Bool) → leb n limit ≡ t → frame limit highest (bytes_of 4 n) ≡ refuse (cond t 1 4)
  unfolding frame require
  length_at true e = rw (length_bytes_of 4 n, length_is, le-leb 8 n low, e, lt-leb n 4 (omega arith))
  length_at false e = rw (length_bytes_of 4 n, length_is, le-leb 8 n low, e)

  pub read_length : read_frame limit highest (bytes_of 4 n) ≡ refuse (cond (leb n limit) 1 4)
  unfolding read_frame
  read_length = then_refuse (frame limit highest (bytes_of 4 n)) _ _ (length_at (leb n limit) refl)

-- ---- the bodies of three frames to be read

-- an Open with an empty container-id, a Close without an error, a Detach of handle 0
abbrev pub an_open : List ℕ
an_open = 0 ∷ 0x53 ∷ 0x10 ∷ 0xc0 ∷ 3 ∷ 1 ∷ 0xa1 ∷ 0 ∷ []

abbrev pub a_close : List ℕ
a_close = 0 ∷ 0x53 ∷ 0x18 ∷ 0x45 ∷ []

abbrev pub a_detach : List ℕ
a_detach = 0 ∷ 0x53 ∷ 0x16 ∷ 0xc0 ∷ 2 ∷ 1 ∷ 0x43 ∷ []

-- what is read of them
abbrev pub read : ℕ → List (List ℕ) → ℕ → ℕ → Performative
read code fs from end = record { code = code; fields = fs; from = from; end = end }

abbrev pub opened : Performative
opened = read 16 ((0xa1 ∷ 0 ∷ []) ∷ []) 6 8

abbrev pub closed : Performative
closed = read 24 [] 4 4

abbrev pub detached : Performative
detached = read 22 ((0x43 ∷ []) ∷ []) 6 7

contents : (content an_open ≡ accept (Some opened)) × (content a_close ≡ accept (Some closed)) × (content a_detach ≡ accept (Some detached))
unfolding content performative performative_by fields_by described descriptor require and_then starts_with value_end run level after_code kind_of kind_in codes times followed_by plus body bytes number_of big_endian big_endian_from list_at sized opening number_in paired_in fields_of fields_in rows_for split variable_end fit fits has_type
contents = (refl, refl, refl)

pub open_content : content an_open ≡ accept (Some opened)
open_content = contents.0

pub close_content : content a_close ≡ accept (Some closed)
close_content = contents.1

pub detach_content : content a_detach ≡ accept (Some detached)
detach_content = contents.2

-- ---- a Transfer of handle 0 with a payload, to be sent

abbrev pub a_transfer : List ℕ → List ℕ
a_transfer payload = 0 ∷ 0x53 ∷ 0x14 ∷ 0xc0 ∷ 2 ∷ 1 ∷ 0x43 ∷ payload

abbrev pub transferred : Performative
transferred = read 20 ((0x43 ∷ []) ∷ []) 6 7

-- its descriptor, and the beginning of its list, do not reach the payload
descriptor_is : (t : List ℕ) → value_end 1 (0x53 ∷ 0x14 ∷ t) ≡ accept 2
unfolding kind_of kind_in codes
descriptor_is t = fixed_whole 0 0x53 1 (0x14 ∷ []) refl refl t

opening_of : (t : List ℕ) → opening list 1 (2 ∷ 1 ∷ 0x43 ∷ t) ≡ accept (2, 1)
unfolding big_endian big_endian_from paired_in
opening_of t =
    opening_is list 1 (2 ∷ 1 ∷ 0x43 ∷ t) 2 1
    (record { sized = number_is 1 (2 ∷ 1 ∷ 0x43 ∷ t) (omega arith); fits = omega arith; counted = number_is 1 (1 ∷ 0x43 ∷ []) (omega arith); paired = refl })

described_is : (t : List ℕ) → described (a_transfer t) ≡ accept (record { code = 20; count = 1; from = 6; end = 7 })
unfolding described descriptor require and_then starts_with number_of big_endian big_endian_from list_at sized
described_is t = rw (descriptor_is (0xc0 ∷ 2 ∷ 1 ∷ 0x43 ∷ t)) (rw (opening_of t))

transfer_read : (t : List ℕ) → performative (a_transfer t) ≡ accept transferred
unfolding performative performative_by fields_by require and_then starts_with value_end run level after_code kind_of kind_in codes times followed_by plus body bytes fields_of fields_in rows_for split fit fits has_type
transfer_read t = rw (described_is t)

pub transfer_session : (highest : ℕ) (t : List ℕ) → session_performative highest (a_transfer t) ≡ accept transferred
unfolding session_performative require and_then
transfer_session highest t = rw (transfer_read t)

-- sent, it is written as it stands
pub transfer_bytes : (t : List ℕ) → 15 + length t < 4294967296 → session_bytes (frame_bytes 0 (a_transfer t)) (framed (8 + length (a_transfer t)) 0, transferred) ≡ frame_bytes 0 (a_transfer t)
unfolding session_bytes performative_written fields_of fields_in written_fields written_as shortest starts_with composite trimmed joined composite_header list_header
transfer_bytes t h = rw (body_is 0 (a_transfer t) (omega arith) (omega arith))
