-- An empty frame that was written is read back: a frame with no performative. The result is `empty_read_back`.
-- Assumes nothing.
use mathlib.Core.Path.{◌≡◌, refl}
use mathlib.Core.List.{List, [], ◌++◌}
use Rattle.std.specs.Prelude.{None}
use Prim.Native.Nat.{ℕ, ◌≤◌}
use native.Mathlib.Omega.{arith}
use lib.ListN.{length}
use Rattle.octets.specs.Verdict.{accept}
use Rattle.frame_decoder.specs.Frame.{content, read_frame}
use Rattle.frame_encoder.specs.Frames.{frame_bytes}
use Rattle.frame_encoder.proofs.Laws.{length_frame}
use Rattle.codec.specs.ReadBack.{frame_of}
use Rattle.codec.proofs.Frames.{framed_read}

pub empty_read_back : (limit highest : ℕ) (t : List ℕ) → length (frame_bytes 0 []) ≤ limit → read_frame limit highest (frame_bytes 0 [] ++ t) ≡ accept (frame_of 0 [], None)
unfolding content
empty_read_back limit highest t room = framed_read limit highest 0 [] t (omega arith) (omega arith) (omega (arith, length_frame 0 [])) room None refl
