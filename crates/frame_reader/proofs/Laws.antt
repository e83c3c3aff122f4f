-- What the parts of an answer come to when they are laid one after the other, and what each return of the reader shows.
-- Assumes nothing.
use mathlib.Core.Path.{◌≡◌, refl, sym, ◌∙◌, ap}
use mathlib.Core.List.{List, append_assoc}
use Prim.Native.Nat.{ℕ, ◌≤◌, ◌<◌}
use native.Mathlib.Omega.{arith}
use borrow.Author.Tests.{le-leb, lt-leb}
use lib.ListN.{length, take, drop, length-append}
use lib.Seq.{length-take-le}
use Rattle.std.specs.Prelude.{Result, Ok, Err}
use Rattle.octets.specs.Verdict.{accept}
use Rattle.octets.specs.Refusal.{number_of}
use Rattle.octets.specs.declared.Refusal.{Refusal}
use Rattle.octets.specs.Octets.{big_endian, bytes_of, put}
use Rattle.octets.proofs.Laws.{length_bytes_of, put_not}
use Rattle.layout.proofs.Parts.{first, more}
use Rattle.values.proofs.Apart.{then_was}
use Rattle.performatives.specs.declared.Performative.{Performative}
use Rattle.performatives.specs.Answers.{performative_says}
use Rattle.frame_decoder.specs.declared.Frame.{Frame}
use Rattle.frame_decoder.specs.declared.Frame.TheVariants.{Empty, Body}
use Rattle.frame_decoder.specs.Frame.{size_of, channel_of, frame, body_in, FrameSaid, holding, content, read_frame}
use Rattle.frame_decoder.specs.Answers.{frame_says, frame_answer}
use Rattle.frame_decoder.proofs.Laws.{frame_was}
use Rattle.frame_decoder.proofs.Steps.{number_in_lem}
use Rattle.frame_reader.specs.Reading.{frame_bytes, tells, told}

length_frame : (code channel from end size : ℕ) → length (frame_bytes code channel from end size) ≡ 27
unfolding frame_bytes
length_frame code channel from end size = simp (length-append, length_bytes_of)

pub frame_short : (d : List ℕ) (code channel from end size : ℕ) → length d < 27 → d ≡ put d 0 (frame_bytes code channel from end size)
frame_short d code channel from end size h = sym (put_not d 0 (frame_bytes code channel from end size) (omega (arith, length_frame code channel from end size)))

-- the first four bytes of a frame
pub front_is : (s : List ℕ) → 8 ≤ length s → 4 ≡ length (take 4 s)
front_is s h = sym (length-take-le 4 s (omega arith))

laid :
    (d o p q r t : List ℕ) (code channel from end size : ℕ) → 27 ≤ length d → o ≡ put d 0 (bytes_of 1 code) → p ≡ put o 1 (bytes_of 2 channel)
    → q ≡ put p 3 (bytes_of 8 from) → r ≡ put q 11 (bytes_of 8 end) → t ≡ put r 19 (bytes_of 8 size) → t ≡ put d 0 (frame_bytes code channel from end size)
unfolding frame_bytes
laid d o p q r t code channel from end size h e1 e2 e3 e4 e5 =
    let l1 = first d 0 1 (bytes_of 1 code) o (length_bytes_of 1 code) e1 in
    let l2 = more d 0 1 2 1 _ (bytes_of 2 channel) o p l1 (length_bytes_of 2 channel) refl (omega arith) e2 in
    let l3 = more d 0 3 8 3 _ (bytes_of 8 from) p q l2 (length_bytes_of 8 from) refl (omega arith) e3 in
    let l4 = more d 0 11 8 11 _ (bytes_of 8 end) q r l3 (length_bytes_of 8 end) refl (omega arith) e4 in
    let l5 = more d 0 19 8 19 _ (bytes_of 8 size) r t l4 (length_bytes_of 8 size) refl (omega arith) e5 in
    simp append_assoc at l5.laid

-- with the channel and the size as `number` reads them in the frame s
pub frame_laid :
    (s d o p q r t : List ℕ) (code channel from end size : ℕ) → 27 ≤ length d → o ≡ put d 0 (bytes_of 1 code) → channel ≡ big_endian (take 8 (take 2 (drop 6 s)))
    → p ≡ put o 1 (bytes_of 2 channel) → q ≡ put p 3 (bytes_of 8 from) → r ≡ put q 11 (bytes_of 8 end) → size ≡ big_endian (take 8 (take 4 s)) → t ≡ put r 19 (bytes_of 8 size)
    → t ≡ put d 0 (frame_bytes code (channel_of s) from end (size_of s))
frame_laid s d o p q r t code channel from end size h e1 c e2 e3 e4 z e5 =
    laid d o p q r t code channel from end size h e1 e2 e3 e4 e5
    ∙ rw (number_in_lem s 6 2 channel (omega arith) c, number_in_lem s 0 4 size (omega arith) z)

-- ---- the reader

-- the channel and the size that are answered stand in the frame's header
record Stands (s : List ℕ) (channel size : ℕ) : Type 0 where
  long : 8 ≤ length s
  channel_is : channel ≡ channel_of s
  size_is : size ≡ size_of s

stands : (limit highest : ℕ) (s : List ℕ) (f : FrameSaid) → frame_answer limit highest s ≡ accept f → Stands s f.channel f.size
unfolding frame_answer read_frame
stands limit highest s f e =
    let r = then_was (read_frame limit highest s) _ f e in
    let g = then_was (frame limit highest s) _ r.0 r.1 in
    let c = then_was (content (body_in g.0 s)) _ r.0 g.2 in
    let w = frame_was limit highest s g.0 g.1 in
    let q : f ≡ holding (record { size = size_of s; channel = channel_of s; from = 8 }) f.content = cc in
    record { long = omega (arith, w.header, w.here); channel_is = ap (λ (x : FrameSaid). x.channel) q; size_is = ap (λ (x : FrameSaid). x.size) q }

pub told_short : (limit highest : ℕ) (s a : List ℕ) → length a < 27 → record { returned = 9; answer = a } ≡ told limit highest s a
unfolding told
told_short limit highest s a h = rw (lt-leb 27 (length a) h)

told_is : (limit highest : ℕ) (s a : List ℕ) → 27 ≤ length a → told limit highest s a ≡ tells (frame_answer limit highest s) a
unfolding told
told_is limit highest s a h = rw (le-leb 27 (length a) h)

module _ (limit highest : ℕ) (s a : List ℕ) (room : 27 ≤ length a) (r : Result Frame Refusal) (read : frame_says r ≡ frame_answer limit highest s) where
  told_by : (x : Result Frame Refusal) → r ≡ x → tells (frame_says x) a ≡ told limit highest s a
  told_by x e = sym (told_is limit highest s a room ∙ ap (λ v. tells v a) (sym read) ∙ ap (λ x. tells (frame_says x) a) e)

  pub told_refused : (e : Refusal) → r ≡ Err e → (k : ℕ) → k ≡ number_of e → record { returned = k; answer = a } ≡ told limit highest s a
  told_refused e q k n = rw n (told_by (Err e) q)

  accepted : (x : Result Frame Refusal) → r ≡ x → frame_answer limit highest s ≡ frame_says x
  accepted x e = sym read ∙ ap frame_says e

  module _ (f : Frame) (g : r ≡ Ok f) where
    module _ (channel size from : ℕ) (e : f ≡ Empty channel size from) where
      empty_stands : Stands s channel size
      empty_stands = stands limit highest s _ (accepted _ (g ∙ ap Ok e))

      pub empty_long : 8 ≤ length s
      empty_long = empty_stands.long

      pub told_empty : (o : List ℕ) → o ≡ put a 0 (frame_bytes 0 (channel_of s) from 0 (size_of s)) → record { returned = 0; answer = o } ≡ told limit highest s a
      told_empty o p = rw (p, ← empty_stands.channel_is, ← empty_stands.size_is) (told_by (Ok (Empty channel size from)) (g ∙ ap Ok e))

    module _ (channel size from end : ℕ) (performative : Performative) (e : f ≡ Body channel size from performative end) where
      body_stands : Stands s channel size
      body_stands = stands limit highest s _ (accepted _ (g ∙ ap Ok e))

      pub body_long : 8 ≤ length s
      body_long = body_stands.long

      pub told_body :
          (code : ℕ) (o : List ℕ) → code ≡ (performative_says performative).0 → o ≡ put a 0 (frame_bytes code (channel_of s) from end (size_of s))
          → record { returned = 0; answer = o } ≡ told limit highest s a
      told_body code o q p = rw (p, q, ← body_stands.channel_is, ← body_stands.size_is) (told_by (Ok (Body channel size from performative end)) (g ∙ ap Ok e))
