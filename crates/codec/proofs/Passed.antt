-- Every frame that is written is within its limit, and passes a reader with that limit. The results are `open_passes`, `close_passes` and `empty_passes`.
-- Assumes nothing.
use mathlib.Core.Path.{◌≡◌, sym}
use mathlib.Core.Bool.{Bool, true, ◌&&◌}
use mathlib.Core.List.{List, [], ◌++◌, append-nil}
use Rattle.std.specs.Prelude.{Option}
use Prim.Native.Nat.{ℕ, ◌≤◌}
use lib.ListN.{length}
use lib.Dec.{leb}
use borrow.Author.Tests.{leb-true}
use Rattle.octets.specs.Verdict.{accept, accepts}
use Rattle.octets.specs.Output.{room_for}
use Rattle.octets.proofs.Laws.{require_was}
use Rattle.values.proofs.Apart.{accepted}
use Rattle.frame_decoder.specs.Frame.{read_frame}
use Rattle.performatives.specs.Performative.{Performative}
use Rattle.frame_decoder.specs.Frame.{Frame}
use Rattle.frame_encoder.specs.Frames.{frame_bytes, limited, write_frame, Settings, open_body, write_open, ErrorText, close_body, write_close, write_empty}
use Rattle.codec.specs.ReadBack.{Passes}
use Rattle.codec.proofs.Trimmed.{and_was}
use Rattle.codec.proofs.Open.{open_accepted}
use Rattle.codec.proofs.Close.{close_read_back}
use Rattle.codec.proofs.Empty.{empty_read_back}

-- what a writer that accepts went through
record Laid (ok : Bool) (limit : ℕ) (frame bytes : List ℕ) : Type 0 where
  fine : ok ≡ true
  same : bytes ≡ frame
  within : length frame ≤ limit

laid : (ok : Bool) (limit : ℕ) (frame out bytes : List ℕ) → write_frame ok limit frame out ≡ accept bytes → Laid ok limit frame bytes
unfolding write_frame limited
laid ok limit frame out bytes e =
    let a = require_was 9 (room_for 0 out) _ bytes e in
    let b = require_was 8 ok _ bytes a.1 in
    let c = require_was 27 (leb (length frame) limit && leb (length frame) 16384) _ bytes b.1 in
    record { fine = b.0; same = accepted bytes frame (sym c.1); within = leb-true _ _ (and_was _ _ c.0).0 }

-- a frame that is accepted
pub passes : (limit highest : ℕ) (frame bytes : List ℕ) (r : Frame × Option Performative) → bytes ≡ frame → length frame ≤ limit → read_frame limit highest (frame ++ []) ≡ accept r → Passes limit highest bytes
unfolding accepts
passes limit highest frame bytes r e h q = rw e (record { within = h; accepted = rw (← append-nil frame, q) })

module _ (limit highest : ℕ) (out bytes : List ℕ) where
  pub open_passes : (s : Settings) → write_open s limit out ≡ accept bytes → Passes limit highest bytes
  unfolding write_open
  open_passes s e =
      let w = laid _ limit (frame_bytes 0 (open_body s)) out bytes e in
      passes limit highest _ bytes _ w.same w.within (open_accepted s w.fine limit highest [] w.within)

  pub close_passes : (o : Option ErrorText) → write_close o limit out ≡ accept bytes → Passes limit highest bytes
  unfolding write_close
  close_passes o e =
      let w = laid _ limit (frame_bytes 0 (close_body o)) out bytes e in
      passes limit highest _ bytes _ w.same w.within (close_read_back o w.fine limit highest [] w.within).read

  pub empty_passes : write_empty limit out ≡ accept bytes → Passes limit highest bytes
  unfolding write_empty
  empty_passes e =
      let w = laid _ limit (frame_bytes 0 []) out bytes e in
      passes limit highest _ bytes _ w.same w.within (empty_read_back limit highest [] w.within)
