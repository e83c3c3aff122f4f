-- A frame that was written around a described list is read back: the frame, and its performative with these fields.
-- Assumes nothing.
use mathlib.Core.Path.{◌≡◌, refl, sym, ap, ◌∙◌}
use mathlib.Core.Bool.{true}
use mathlib.Core.List.{List, [], ◌++◌, append_assoc, append-nil}
use Rattle.std.specs.Prelude.{Option, None, Some}
use Prim.Native.Nat.{ℕ, ◌+◌, ◌-◌, ◌^◌, ◌<◌, ◌≤◌}
use native.Mathlib.Omega.{arith}
use lib.ListN.{length, get_or, length-append}
use lib.Seq.{drop_at, take-append_seam}
use borrow.Author.Tests.{le-leb}
use Rattle.octets.specs.Verdict.{accept, require, and_then}
use Rattle.octets.specs.Octets.{bytes_of}
use Rattle.values.proofs.Written.{Whole, Each, bytes_number}
use Rattle.serializer.specs.Written.{joined, trimmed, composite_header, composite_of, composite}
use Rattle.performatives.specs.Fields.{Field, fields_of}
use Rattle.performatives.specs.Performative.{fit, Performative, rows_for, fields_by, performative_by, performative}
use Rattle.frame_decoder.specs.Frame.{size_of, channel_of, frame, body_in, content, read_frame}
use Rattle.frame_encoder.specs.Frames.{frame_header, frame_bytes}
use Rattle.frame_encoder.proofs.Laws.{length_header, length_frame}
use Rattle.codec.specs.ReadBack.{frame_of}
use Rattle.codec.proofs.Trimmed.{trimmed_few, trimmed_each, trimmed_fit}
use Rattle.codec.proofs.Composite.{described_read, items_read, split_joined}

-- ---- the performative

abbrev pub read_as_lem : ℕ → List (List ℕ) → Performative
read_as_lem code fs = record { code = code; fields = fs; from = length (composite_header code (length fs) (length (joined fs))); end = length (composite_of code fs) }

abbrev pub given : Option (List Field) → List Field
given None = []
given (Some rows) = rows

abbrev pub rows_of : ℕ → List Field
rows_of code = given (fields_of code)

-- any bytes may follow
pub performative_read_lem : (code : ℕ) (rows : List Field) (fs : List (List ℕ)) → fields_of code ≡ Some rows → Each (Whole 16) fs → fit rows fs ≡ true → length fs < 256 → length (joined fs) + 4 < 256 ^ 4 → (t : List ℕ)
    → performative (composite_of code fs ++ t) ≡ accept (read_as_lem code fs)
unfolding performative performative_by fields_by and_then require rows_for
performative_read_lem code rows fs r each fine few low t =
    let e : length (composite_header code (length fs) (length (joined fs))) + length (joined fs) ≡ length (composite_of code fs) = sym (length-append (composite_header code (length fs) (length (joined fs))) (joined fs)) in
    rw (described_read code fs few low t, r, items_read code fs few low t, split_joined 16 fs each, fine, e)

-- ---- the frame

frame_is : (limit highest : ℕ) (s : List ℕ) (n c : ℕ) → size_of s ≡ n → 8 ≤ n → n ≤ limit → n ≤ length s → get_or s 4 0 ≡ 2 → get_or s 5 0 ≡ 0 → channel_of s ≡ c → c ≤ highest
    → frame limit highest s ≡ accept (record { size = n; channel = c; from = 8 })
unfolding frame require
frame_is limit highest s n c z low high room doff type k h =
    let four : 4 ≤ length s = omega arith in
    rw (le-leb 4 (length s) four, z, le-leb _ _ low, le-leb _ _ high, le-leb _ _ room, doff, type, k, le-leb _ _ h)

module _ (limit highest channel : ℕ) (body t : List ℕ) (low : channel < 256 ^ 2) (within : channel ≤ highest) (long : length (frame_bytes channel body) < 256 ^ 4) (room : length (frame_bytes channel body) ≤ limit) where
  pub frame_read_is : frame limit highest (frame_bytes channel body ++ t) ≡ accept (frame_of channel body)
  unfolding frame_bytes frame_header bytes_of
  frame_read_is =
      let n : length (frame_bytes channel body) ≡ 8 + length body = length_frame channel body in
      let size : size_of (frame_bytes channel body ++ t) ≡ 8 + length body = bytes_number 4 (8 + length body) (omega arith) in
      frame_is limit highest (frame_bytes channel body ++ t) (length (frame_bytes channel body)) channel (size ∙ sym n) (omega arith) room
      (omega (arith, length-append (frame_bytes channel body) t)) refl refl (bytes_number 2 channel low) within

  pub body_read : body_in (frame_of channel body) (frame_bytes channel body ++ t) ≡ body
  unfolding body_in frame_bytes
  body_read =
      let n : length (frame_bytes channel body) ≡ 8 + length body = length_frame channel body in
      let H : List ℕ = frame_header (8 + length body) channel in
      let k : length (frame_bytes channel body) - 8 ≡ length body = omega arith in
      rw (k, append_assoc H body t, drop_at H (body ++ t) 8 (length_header (8 + length body) channel)) (take-append_seam body t)

  pub framed_read : (c : Option Performative) → content body ≡ accept c → read_frame limit highest (frame_bytes channel body ++ t) ≡ accept (frame_of channel body, c)
  unfolding read_frame and_then
  framed_read c e = rw (frame_read_is, body_read, e)

-- a frame with one performative
composite_of_framed : (limit highest channel code : ℕ) (rows : List Field) (fs : List (List ℕ)) (t : List ℕ) → channel < 256 ^ 2 → channel ≤ highest → length (frame_bytes channel (composite_of code fs)) < 256 ^ 4 → length (frame_bytes channel (composite_of code fs)) ≤ limit
    → fields_of code ≡ Some rows → Each (Whole 16) fs → fit rows fs ≡ true → length fs < 256 → read_frame limit highest (frame_bytes channel (composite_of code fs) ++ t) ≡ accept (frame_of channel (composite_of code fs), Some (read_as_lem code fs))
unfolding content composite_header and_then
composite_of_framed limit highest channel code rows fs t low within long room r each fine few =
    let l : length (joined fs) + 4 < 256 ^ 4 = omega (arith, length_frame channel (composite_of code fs), length-append (composite_header code (length fs) (length (joined fs))) (joined fs)) in
    let p : performative (composite_of code fs) ≡ accept (read_as_lem code fs) = ap performative (sym (append-nil (composite_of code fs))) ∙ performative_read_lem code rows fs r each fine few l [] in
    framed_read limit highest channel (composite_of code fs) t low within long room (Some (read_as_lem code fs)) (rw p)

-- the same of fields of which the trailing nulls are dropped
pub composite_framed : (limit highest channel code : ℕ) (rows : List Field) (fs : List (List ℕ)) (t : List ℕ) → channel < 256 ^ 2 → channel ≤ highest → length (frame_bytes channel (composite code fs)) < 256 ^ 4 → length (frame_bytes channel (composite code fs)) ≤ limit
    → fields_of code ≡ Some rows → Each (Whole 16) fs → fit rows fs ≡ true → length fs < 256 → read_frame limit highest (frame_bytes channel (composite code fs) ++ t) ≡ accept (frame_of channel (composite code fs), Some (read_as_lem code (trimmed fs)))
unfolding composite
composite_framed limit highest channel code rows fs t low within long room r each fine few =
    let l : length (trimmed fs) < 256 = omega (arith, trimmed_few fs) in
    composite_of_framed limit highest channel code rows (trimmed fs) t low within long room r (trimmed_each (Whole 16) fs each) (trimmed_fit rows fs fine) l
