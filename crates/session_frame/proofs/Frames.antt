-- The frame: its header, the performative in the written form, and what stands after it.
-- Assumes nothing.
use mathlib.Core.Path.{◌≡◌, refl, sym, ap, ◌∙◌}
use mathlib.Core.List.{List, ◌++◌, append_assoc}
use Prim.Native.Nat.{ℕ, ◌+◌, ◌-◌, ◌^◌, ◌<◌, ◌≤◌}
use native.Mathlib.Omega.{arith}
use mir.Syntax.{w32, w64}
use mir.Val.{Fits}
use lib.ListN.{length, take, drop, length-append, length-drop}
use Rattle.octets.specs.Octets.{put}
use Rattle.octets.proofs.Laws.{put_next, length_put}
use Rattle.serializer.specs.Written.{joined, composite_header}
use Rattle.frame_encoder.specs.Frames.{frame_header, frame_bytes}
use Rattle.frame_encoder.proofs.Laws.{length_header, length_frame}
use Rattle.session_frame.specs.declared.Plan.{Plan}
use Rattle.session_frame.specs.Parts.{fields_from, written_from, Room, items_in, planned, head_bytes, plan_bytes, Planned}
use Rattle.session_frame.proofs.Trim.{trimmed_first, trimmed_few}
use Rattle.session_frame.proofs.Steps.{rest, rest_is}
use Rattle.session_frame.proofs.Errors.{header_length}
use Rattle.session_frame.proofs.Walk.{from_count}
use Rattle.session_frame.proofs.Below.{rows_left}

-- ---- put_head

module _ (channel size : ℕ) (plan : Plan) (h : ℕ) (he : h ≡ length (composite_header plan.code plan.kept plan.len)) where
  pub head_length : 8 + h ≡ length (head_bytes channel size plan)
  unfolding head_bytes
  head_length = sym (length-append (frame_header size channel) (composite_header plan.code plan.kept plan.len) ∙ rw (length_header size channel, ← he))

  pub head_fits : Fits w64 (8 + h)
  head_fits = omega (arith, header_length plan.code plan.kept plan.len)

pub head_laid : (channel size : ℕ) (plan : Plan) (d o₁ o₂ : List ℕ) → 20 ≤ length d → o₁ ≡ put d 0 (frame_header size channel) → o₂ ≡ put o₁ 8 (composite_header plan.code plan.kept plan.len) → o₂ ≡ put d 0 (head_bytes channel size plan)
unfolding head_bytes
head_laid channel size plan d o₁ o₂ room x y =
    y ∙ rw x (put_next (frame_header size channel) (composite_header plan.code plan.kept plan.len) d 8 (length_header size channel) (omega (arith, header_length plan.code plan.kept plan.len)))

-- ---- put_frame

module _ (plan : Plan) (body : List ℕ) (pl : Planned plan body) where
  abbrev fields : List (List ℕ)
  fields = written_from (fields_from plan.code 0) plan.count (items_in plan body)

  fields_are : joined (take plan.kept fields) ≡ joined (planned plan body)
  fields_are = ap joined (ap (λ (k : ℕ). take k fields) pl.kept ∙ sym (trimmed_first fields))

  pub kept_low : plan.kept < 256
  kept_low = omega (arith, pl.kept, trimmed_few fields, from_count (fields_from plan.code 0) plan.count (items_in plan body), rows_left plan.code 0)

  abbrev head : List ℕ
  head = composite_header plan.code plan.kept plan.len

  bytes_are : (channel : ℕ) → plan_bytes channel plan body ≡ frame_bytes channel ((head ++ joined (take plan.kept fields)) ++ drop plan.end body)
  unfolding plan_bytes
  bytes_are channel = rw (fields_are, pl.kept, pl.len)

  fields_length : length (joined (take plan.kept fields)) ≡ plan.len
  fields_length = ap length fields_are ∙ sym pl.len

  body_length : length ((head ++ joined (take plan.kept fields)) ++ drop plan.end body) ≡ length head + plan.len + (length body - plan.end)
  body_length = length-append (head ++ joined (take plan.kept fields)) (drop plan.end body) ∙ rw (length-append, fields_length, length-drop)

  pub bytes_length : (channel : ℕ) → length (plan_bytes channel plan body) ≡ 8 + (length head + plan.len + (length body - plan.end))
  bytes_length channel =
      ap length (bytes_are channel)
      ∙ length_frame channel ((head ++ joined (take plan.kept fields)) ++ drop plan.end body)
      ∙ ap (λ (n : ℕ). 8 + n) body_length

  -- the head, the fields, and what stands after them
  bytes_split : (channel size : ℕ) → size ≡ length (plan_bytes channel plan body) → plan_bytes channel plan body ≡ (head_bytes channel size plan ++ joined (take plan.kept fields)) ++ drop plan.end body
  unfolding head_bytes frame_bytes
  bytes_split channel size se =
      let n : 8 + length ((head ++ joined (take plan.kept fields)) ++ drop plan.end body) ≡ size = ap (λ (n : ℕ). 8 + n) body_length ∙ sym (se ∙ bytes_length channel) in
      bytes_are channel ∙ rw n (simp append_assoc)

  module _ (channel size : ℕ) (se : size ≡ length (plan_bytes channel plan body)) where
    pub len_low : Fits w32 size → plan.len < 2 ^ 32
    len_low f = omega (arith, se, bytes_length channel)

    module _ (at : ℕ) (ae : at ≡ length (head_bytes channel size plan)) where
      sizes : size ≡ at + plan.len + (length body - plan.end)
      sizes =
          let h : 8 + length head ≡ length (head_bytes channel size plan) = head_length channel size plan (length head) refl in
          omega (arith, se, bytes_length channel)

      pub next_fits : Fits w32 size → Fits w64 (at + plan.len)
      next_fits f = omega (arith, sizes)

      module _ (d o₁ : List ℕ) (room : size ≤ length d) (x : o₁ ≡ put d 0 (head_bytes channel size plan)) where
        pub fields_room : Fits w32 size → Room o₁ at (joined (take plan.kept fields))
        fields_room f =
            let l : length o₁ ≡ length d = ap length x ∙ length_put d 0 (head_bytes channel size plan) in
            record { fits = omega (arith, sizes, fields_length); low = omega (arith, sizes, fields_length) }

        pub frame_laid : (o₂ o₃ : List ℕ) → o₂ ≡ put o₁ at (joined (take plan.kept fields)) → o₃ ≡ put o₂ (at + plan.len) (rest body plan.end) → o₃ ≡ put d 0 (plan_bytes channel plan body)
        frame_laid o₂ o₃ y z =
            let h : List ℕ = head_bytes channel size plan in
            let l : length (head_bytes channel size plan ++ joined (take plan.kept fields)) ≡ at + plan.len =
            length-append (head_bytes channel size plan) (joined (take plan.kept fields)) ∙ rw (fields_length, ← ae) in
            let s : o₂ ≡ put d 0 (head_bytes channel size plan ++ joined (take plan.kept fields)) =
            y ∙ rw x (put_next (head_bytes channel size plan) (joined (take plan.kept fields)) d at (sym ae) (omega (arith, sizes, fields_length))) in
            z
            ∙ rw (s, rest_is body plan.end) (put_next (head_bytes channel size plan ++ joined (take plan.kept fields)) (drop plan.end body) d (at + plan.len) l (omega (arith, sizes, length-drop plan.end body))
            ∙ ap (put d 0) (sym (bytes_split channel size se)))
