-- Laws of written frames: their length, how they come about by writes one after the other, and the order of refusals. Within which limits settings are.
-- Assumes nothing.
use mathlib.Core.Path.{◌≡◌, refl, ap, ◌∙◌}
use mathlib.Core.Bool.{Bool, true, false, and-eq-true_iff}
use mathlib.Core.List.{List, ◌++◌, append_assoc}
use Prim.Native.Nat.{ℕ, ◌+◌, ◌*◌, ◌/◌, ◌%◌, ◌<◌, ◌≤◌}
use native.Mathlib.Omega.{arith}
use lib.ListN.{length, length-append}
use lib.Dec.{leb, eqb}
use mir.Syntax.{w16, w32}
use mir.Val.{Fits}
use borrow.Author.Tests.{le-leb, lt-leb, leb-true}
use Rattle.octets.specs.Verdict.{refuse, accept, require}
use Rattle.octets.specs.Octets.{bytes_of, put, starts_with}
use Rattle.octets.specs.Output.{Wrote}
use Rattle.octets.specs.declared.Refusal.TheVariants.{OutOfBounds, NoRoom, OverWritingLimit}
use Rattle.std.specs.Prelude.{Ok, Err}
use Rattle.octets.proofs.Laws.{put_next, room_yes, room_no, wrote_no, wrote_yes}
use Rattle.text.specs.Utf8.{utf8}
use Rattle.values.specs.Null.{is_null}
use Rattle.serializer.specs.Written.{uint, joined, trimmed, composite_header, composite}
use Rattle.frame_encoder.specs.Frames.{frame_header, frame_bytes, limited, write_frame, settings_ok}

-- ---- a frame

pub length_header : (size channel : ℕ) → length (frame_header size channel) ≡ 8
unfolding frame_header bytes_of
length_header size channel = refl

pub length_frame : (channel : ℕ) (body : List ℕ) → length (frame_bytes channel body) ≡ 8 + length body
unfolding frame_bytes
length_frame channel body = omega (arith, length-append (frame_header (8 + length body) channel) body, length_header (8 + length body) channel)

-- the header as one number of eight bytes
pub header_bytes_lem : (size channel : ℕ) → Fits w32 size → Fits w16 channel → bytes_of 8 (size * 4294967296 + 33554432 + channel) ≡ frame_header size channel
unfolding bytes_of frame_header
header_bytes_lem size channel f g =
    let x₀ : (size * 4294967296 + 33554432 + channel) / 72057594037927936 % 256 ≡ size / 16777216 % 256 = omega arith in
    let x₁ : (size * 4294967296 + 33554432 + channel) / 281474976710656 % 256 ≡ size / 65536 % 256 = omega arith in
    let x₂ : (size * 4294967296 + 33554432 + channel) / 1099511627776 % 256 ≡ size / 256 % 256 = omega arith in
    let x₃ : (size * 4294967296 + 33554432 + channel) / 4294967296 % 256 ≡ size / 1 % 256 = omega arith in
    let x₄ : (size * 4294967296 + 33554432 + channel) / 16777216 % 256 ≡ 2 = omega arith in
    let x₅ : (size * 4294967296 + 33554432 + channel) / 65536 % 256 ≡ 0 = omega arith in
    let x₆ : (size * 4294967296 + 33554432 + channel) / 256 % 256 ≡ channel / 256 % 256 = omega arith in
    let x₇ : (size * 4294967296 + 33554432 + channel) / 1 % 256 ≡ channel / 1 % 256 = omega arith in
    rw (x₀, x₁, x₂, x₃, x₄, x₅, x₆, x₇)

-- ---- the order of refusals

module _ (ok : Bool) (limit : ℕ) (bytes out : List ℕ) where
  frame_9 : length out < 16384 → write_frame ok limit bytes out ≡ refuse 9
  unfolding write_frame require
  frame_9 h = rw (room_no 0 out h)

  module _ (room : 16384 ≤ length out) where
    frame_8 : ok ≡ false → write_frame ok limit bytes out ≡ refuse 8
    unfolding write_frame require
    frame_8 e = rw (room_yes 0 out room, e)

    module _ (fine : ok ≡ true) (n : ℕ) (l : n ≡ length bytes) where
      frame_27 : limit < n → write_frame ok limit bytes out ≡ refuse 27
      unfolding write_frame limited require
      frame_27 h = rw (room_yes 0 out room, fine, ← l, lt-leb _ _ h)

      frame_yes : n ≤ limit → n ≤ 16384 → write_frame ok limit bytes out ≡ accept bytes
      unfolding write_frame limited require
      frame_yes h k = rw (room_yes 0 out room, fine, ← l, le-leb _ _ h, le-leb _ _ k)

-- what the writers show at each return
module _ (ok : Bool) (limit : ℕ) (bytes out : List ℕ) where
  pub wrote_9 : length out < 16384 → Wrote (write_frame ok limit bytes out) (Err NoRoom) out out
  wrote_9 h = wrote_no _ NoRoom out (frame_9 ok limit bytes out h)

  module _ (room : 16384 ≤ length out) where
    pub wrote_8 : ok ≡ false → Wrote (write_frame ok limit bytes out) (Err OutOfBounds) out out
    wrote_8 e = wrote_no _ OutOfBounds out (frame_8 ok limit bytes out room e)

    module _ (fine : ok ≡ true) (n : ℕ) (l : n ≡ length bytes) where
      pub wrote_27 : limit < n → Wrote (write_frame ok limit bytes out) (Err OverWritingLimit) out out
      wrote_27 h = wrote_no _ OverWritingLimit out (frame_27 ok limit bytes out room fine n l h)

      pub wrote_frame : n ≤ limit → n ≤ 16384 → (o : List ℕ) → o ≡ put out 0 bytes → Wrote (write_frame ok limit bytes out) (Ok n) out o
      wrote_frame h k o q = wrote_yes _ bytes n out o (frame_yes ok limit bytes out room fine n l h k) l (omega arith) q

-- ---- a frame that holds a described list

module _ (code count size : ℕ) (fs : List (List ℕ)) (counts : count ≡ length (trimmed fs)) (sizes : size ≡ length (joined (trimmed fs))) where
  pub framed_length : (n : ℕ) → n ≡ 8 + length (composite_header code count size) + size → n ≡ length (frame_bytes 0 (composite code fs))
  unfolding composite
  framed_length n e =
      e ∙ rw (length_frame, ← counts, ← sizes, length-append) (rw (← sizes) (omega arith))

  module _ (n : ℕ) (e : n ≡ 8 + length (composite_header code count size) + size) (d o₁ o₂ : List ℕ) (at : ℕ) (a : at ≡ 8 + length (composite_header code count size)) (room : n ≤ length d) where
    pub framed : o₁ ≡ put d 0 (frame_header n 0 ++ composite_header code count size) → o₂ ≡ put o₁ at (joined (trimmed fs)) → o₂ ≡ put d 0 (frame_bytes 0 (composite code fs))
    unfolding composite frame_bytes
    framed p q =
        let l : length (frame_header n 0 ++ composite_header code count size) ≡ at = omega (arith, length-append (frame_header n 0) (composite_header code count size), length_header n 0) in
        let b : 8 + length (composite_header code (length (trimmed fs)) (length (joined (trimmed fs))) ++ joined (trimmed fs)) ≡ n =
        rw (length-append, ← counts, ← sizes) (omega arith) in
        q ∙ rw p (put_next (frame_header n 0 ++ composite_header code count size) (joined (trimmed fs)) d at l (omega arith)
        ∙ rw (b, ← counts, ← sizes) (ap (put d 0) (append_assoc (frame_header n 0) (composite_header code count size) (joined (trimmed fs)))))

-- ---- settings

-- what their test says, limit by limit
pub record Within (container_id : List ℕ) (max_frame_size channel_max : ℕ) : Type 0 where
  pub id_short : length container_id ≤ 255
  pub id_text : utf8 container_id ≡ true
  pub size_low : 512 ≤ max_frame_size
  pub size_high : max_frame_size ≤ 16384
  pub channel_high : channel_max ≤ 65535

pub settings_within : (container_id : List ℕ) (max_frame_size channel_max : ℕ) → settings_ok container_id max_frame_size channel_max ≡ true → Within container_id max_frame_size channel_max
unfolding settings_ok
settings_within container_id max_frame_size channel_max ok =
    let a = (and-eq-true_iff (leb (length container_id) 255) _).0 ok in
    let b = (and-eq-true_iff (utf8 container_id) _).0 a.1 in
    let c = (and-eq-true_iff (leb 512 max_frame_size) _).0 b.1 in
    let d = (and-eq-true_iff (leb max_frame_size 16384) _).0 c.1 in
    record { id_short = leb-true _ _ a.0; id_text = b.0; size_low = leb-true _ _ c.0; size_high = leb-true _ _ d.0; channel_high = leb-true _ _ d.1 }

-- ---- fields

uint_not_null_at : (n : ℕ) (a b : Bool) → eqb n 0 ≡ a → leb n 255 ≡ b → is_null (uint n) ≡ false
unfolding uint starts_with
uint_not_null_at n true b p q = rw p
uint_not_null_at n false true p q = rw (p, q)
uint_not_null_at n false false p q = rw (p, q)

pub uint_not_null : (n : ℕ) → is_null (uint n) ≡ false
uint_not_null n = uint_not_null_at n (eqb n 0) (leb n 255) refl refl
