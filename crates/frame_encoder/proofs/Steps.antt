-- What each step of the writers shows, with the answers of the functions that they call as they come.
-- Assumes nothing.
use mathlib.Core.Path.{◌≡◌, refl, sym, ap, ◌∙◌}
use mathlib.Core.Bool.{Bool, true, false, false≢true}
use mathlib.Core.List.{List, [], ◌∷◌, ◌++◌, append_assoc, append-nil}
use denote.Ref.{Bor}
use Rattle.std.specs.Prelude.{Option, None, Some, Ok, Err, option_copied}
use Prim.Native.Nat.{ℕ, ◌+◌, ◌*◌, ◌<◌, ◌≤◌}
use native.Mathlib.Omega.{arith}
use lib.ListN.{length, length-append}
use lib.Dec.{leb}
use mir.Syntax.{w16, w32}
use mir.Val.{Fits}
use borrow.Author.Tests.{le-leb, lt-leb, leb-true}
use Rattle.octets.specs.Octets.{bytes_of, put, starts_with}
use Rattle.octets.specs.Verdict.{Verdict}
use Rattle.octets.specs.Output.{Wrote}
use Rattle.octets.specs.declared.Refusal.TheVariants.{OutOfBounds, NoRoom, OverWritingLimit}
use Rattle.octets.proofs.Laws.{length_put, put_more, put_next}
use Rattle.text.specs.Utf8.{utf8}
use Rattle.text.specs.Ascii.{ascii}
use Rattle.values.specs.Null.{null, is_null}
use Rattle.serializer.specs.declared.Text.{Text}
use Rattle.serializer.specs.declared.Text.TheVariants.{String, Symbol}
use Rattle.serializer.specs.Answers.{code_of}
use Rattle.serializer.specs.Written.{list_header, uint, ushort, text, text_header, joined, trimmed, composite_header, composite}
use Rattle.serializer.proofs.Laws.{one_byte, header_few}
use Rattle.frame_encoder.specs.Frames.{Settings, ErrorText, frame_header, frame_bytes, settings_ok, idle_field, idle_kept, open_fields, write_open, description_ok, error_ok, description_field, error_fields, error_field, write_close, write_empty}
use Rattle.frame_encoder.specs.Answers.{Sized, ErrorSized, Short, ErrorRoom}
use Rattle.frame_encoder.proofs.Laws.{header_bytes_lem, length_header, settings_within, uint_not_null, wrote_9, wrote_8, wrote_27, wrote_frame, framed_length, framed}

-- ---- put_frame_header

pub header_laid : (o d : List ℕ) (size channel : ℕ) → Fits w32 size → Fits w16 channel → o ≡ put d 0 (bytes_of 8 (size * 4294967296 + 33554432 + channel)) → o ≡ put d 0 (frame_header size channel)
header_laid o d size channel f g e = e ∙ ap (put d 0) (header_bytes_lem size channel f g)

-- ---- put_start

pub start_laid : (o₁ o₂ d : List ℕ) (n code count size : ℕ) → 20 ≤ length d → o₁ ≡ put d 0 (frame_header n 0) → o₂ ≡ put o₁ 8 (composite_header code count size) → o₂ ≡ put d 0 (frame_header n 0 ++ composite_header code count size)
start_laid o₁ o₂ d n code count size room p q =
    let few : length (composite_header code count size) ≤ 12 = header_few code count size in
    q ∙ rw p (put_next (frame_header n 0) (composite_header code count size) d 8 (length_header n 0) (omega arith))

-- ---- settings_ok

module _ (container_id : List ℕ) (max_frame_size channel_max : ℕ) where
  pub id_long : 255 < length container_id → false ≡ settings_ok container_id max_frame_size channel_max
  unfolding settings_ok
  id_long h = rw (lt-leb _ _ h)

  module _ (short : length container_id ≤ 255) (b : Bool) (u : b ≡ utf8 container_id) where
    pub id_no_text : b ≡ false → false ≡ settings_ok container_id max_frame_size channel_max
    unfolding settings_ok
    id_no_text e = rw (le-leb _ _ short, ← u, e)

    module _ (t : b ≡ true) where
      pub size_low : max_frame_size < 512 → false ≡ settings_ok container_id max_frame_size channel_max
      unfolding settings_ok
      size_low h = rw (le-leb _ _ short, ← u, t, lt-leb _ _ h)

      module _ (low : 512 ≤ max_frame_size) where
        pub size_high : 16384 < max_frame_size → false ≡ settings_ok container_id max_frame_size channel_max
        unfolding settings_ok
        size_high h = rw (le-leb _ _ short, ← u, t, le-leb _ _ low, lt-leb _ _ h)

        pub settings_last : max_frame_size ≤ 16384 → Fits w16 channel_max → true ≡ settings_ok container_id max_frame_size channel_max
        unfolding settings_ok
        settings_last h f = let l : channel_max ≤ 65535 = omega arith in rw (le-leb _ _ short, ← u, t, le-leb _ _ low, le-leb _ _ h, le-leb _ _ l)

-- ---- the fields of an Open

module _ (S : Settings) where
  trimmed_never : S.idle_time_out ≡ None → trimmed (open_fields S) ≡ text 0xa1 S.container_id ∷ null ∷ uint S.max_frame_size ∷ ushort S.channel_max ∷ []
  unfolding open_fields idle_field trimmed starts_with ushort
  trimmed_never e = rw e refl

  trimmed_millis : (n : ℕ) → S.idle_time_out ≡ Some n → trimmed (open_fields S) ≡ text 0xa1 S.container_id ∷ null ∷ uint S.max_frame_size ∷ ushort S.channel_max ∷ uint n ∷ []
  unfolding open_fields idle_field trimmed
  trimmed_millis n e = rw e (rw (uint_not_null n))

  joined_by : (idle : Option ℕ) → S.idle_time_out ≡ idle → joined (trimmed (open_fields S)) ≡ text 0xa1 S.container_id ++ (null ++ (uint S.max_frame_size ++ (ushort S.channel_max ++ idle_kept idle)))
  unfolding joined idle_kept
  joined_by None e = rw (trimmed_never e)
  joined_by (Some n) e = rw (trimmed_millis n e, append-nil (uint n))

  open_joined : joined (trimmed (open_fields S)) ≡ text 0xa1 S.container_id ++ (null ++ (uint S.max_frame_size ++ (ushort S.channel_max ++ idle_kept S.idle_time_out)))
  open_joined = joined_by S.idle_time_out refl

  -- how many there are, and their bytes
  module _ (a b : ℕ) (p : a ≡ length (text 0xa1 S.container_id)) (q : b ≡ length (uint S.max_frame_size)) (la : a ≤ 5 + length S.container_id) (lb : b ≤ 5) (short : length S.container_id ≤ 255) where
    pub open_never : S.idle_time_out ≡ None → Sized (open_fields S) 4 (a + 1 + b + 3)
    unfolding joined ushort bytes_of
    open_never e =
        let t : trimmed (open_fields S) ≡ text 0xa1 S.container_id ∷ null ∷ uint S.max_frame_size ∷ ushort S.channel_max ∷ [] = trimmed_never e in
        record {
          counts = rw t;
          sizes = rw t (omega (arith, length-append (text 0xa1 S.container_id) (null ++ (uint S.max_frame_size ++ (ushort S.channel_max ++ []))), length-append (uint S.max_frame_size) (ushort S.channel_max ++ [])));
          small = omega arith;
        }

    pub open_millis : (n k : ℕ) → S.idle_time_out ≡ Some n → k ≡ length (uint n) → k ≤ 5 → Sized (open_fields S) 5 (a + 1 + b + 3 + k)
    unfolding joined ushort bytes_of
    open_millis n k e r lk =
        let t : trimmed (open_fields S) ≡ text 0xa1 S.container_id ∷ null ∷ uint S.max_frame_size ∷ ushort S.channel_max ∷ uint n ∷ [] = trimmed_millis n e in
        record {
          counts = rw t;
          sizes = rw t (omega (arith, length-append (text 0xa1 S.container_id) (null ++ (uint S.max_frame_size ++ (ushort S.channel_max ++ (uint n ++ [])))), length-append (uint S.max_frame_size) (ushort S.channel_max ++ (uint n ++ [])), length-append (uint n) []));
          small = omega arith;
        }

-- ---- put_idle

pub idle_never : (o d : List ℕ) (at : ℕ) (idle : Option ℕ) → idle ≡ None → o ≡ put d at (bytes_of 0 0) → o ≡ put d at (idle_kept idle)
unfolding idle_kept bytes_of
idle_never o d at idle e q = rw e q

pub idle_millis : (o d : List ℕ) (at : ℕ) (idle : Option ℕ) (n : ℕ) → idle ≡ Some n → o ≡ put d at (uint n) → o ≡ put d at (idle_kept idle)
unfolding idle_kept
idle_millis o d at idle n e q = rw e q

pub ushort_three : (n : ℕ) → length (ushort n) ≡ 3
unfolding ushort bytes_of
ushort_three n = refl

-- ---- put_open_fields: five writes, one after the other

pub five_puts : (a b c e f d : List ℕ) (at n m : ℕ) (o₁ o₂ o₃ o₄ o₅ : List ℕ) → n ≡ length a → length b ≡ 1 → m ≡ length c → length e ≡ 3 → at + length (a ++ (b ++ (c ++ (e ++ f)))) ≤ length d
    → o₁ ≡ put d at a → o₂ ≡ put o₁ (at + n) b → o₃ ≡ put o₂ (at + n + 1) c → o₄ ≡ put o₃ (at + n + 1 + m) e → o₅ ≡ put o₄ (at + n + 1 + m + 3) f
    → o₅ ≡ put d at (a ++ (b ++ (c ++ (e ++ f))))
five_puts a b c e f d at n m o₁ o₂ o₃ o₄ o₅ la lb lc le room p₁ p₂ p₃ p₄ p₅ =
    let r₁ : length (a ++ (b ++ (c ++ (e ++ f)))) ≡ length a + length (b ++ (c ++ (e ++ f))) = length-append a (b ++ (c ++ (e ++ f))) in
    let r₂ : length (b ++ (c ++ (e ++ f))) ≡ length b + length (c ++ (e ++ f)) = length-append b (c ++ (e ++ f)) in
    let r₃ : length (c ++ (e ++ f)) ≡ length c + length (e ++ f) = length-append c (e ++ f) in
    let r₄ : length (e ++ f) ≡ length e + length f = length-append e f in
    let k₂ : length (a ++ b) ≡ length a + length b = length-append a b in
    let k₃ : length ((a ++ b) ++ c) ≡ length (a ++ b) + length c = length-append (a ++ b) c in
    let k₄ : length (((a ++ b) ++ c) ++ e) ≡ length ((a ++ b) ++ c) + length e = length-append ((a ++ b) ++ c) e in
    let s₂ : o₂ ≡ put d at (a ++ b) = put_more a b d o₁ o₂ at (at + n) (omega arith) (omega arith) p₁ p₂ in
    let s₃ : o₃ ≡ put d at ((a ++ b) ++ c) = put_more (a ++ b) c d o₂ o₃ at (at + n + 1) (omega arith) (omega arith) s₂ p₃ in
    let s₄ : o₄ ≡ put d at (((a ++ b) ++ c) ++ e) = put_more ((a ++ b) ++ c) e d o₃ o₄ at (at + n + 1 + m) (omega arith) (omega arith) s₃ p₄ in
    let s₅ : o₅ ≡ put d at ((((a ++ b) ++ c) ++ e) ++ f) = put_more (((a ++ b) ++ c) ++ e) f d o₄ o₅ at (at + n + 1 + m + 3) (omega arith) (omega arith) s₄ p₅ in
    s₅ ∙ simp append_assoc

pub open_laid : (S : Settings) (d : List ℕ) (at n m : ℕ) (o₁ o₂ o₃ o₄ o₅ : List ℕ)
    → at + length (joined (trimmed (open_fields S))) ≤ length d
    → n ≡ length (text 0xa1 S.container_id) → m ≡ length (uint S.max_frame_size)
    → o₁ ≡ put d at (text 0xa1 S.container_id) → o₂ ≡ put o₁ (at + n) (bytes_of 1 64) → o₃ ≡ put o₂ (at + n + 1) (uint S.max_frame_size)
    → o₄ ≡ put o₃ (at + n + 1 + m) (ushort S.channel_max) → o₅ ≡ put o₄ (at + n + 1 + m + 3) (idle_kept S.idle_time_out)
    → o₅ ≡ put d at (joined (trimmed (open_fields S)))
open_laid S d at n m o₁ o₂ o₃ o₄ o₅ room ln lm p₁ p₂ p₃ p₄ p₅ =
    rw (open_joined S)
    (five_puts (text 0xa1 S.container_id) null (uint S.max_frame_size) (ushort S.channel_max) (idle_kept S.idle_time_out) d at n m o₁ o₂ o₃ o₄ o₅ ln refl lm (ushort_three S.channel_max)
    (rw (open_joined S) at room) p₁ (rw (one_byte 64 (omega arith)) at p₂) p₃ p₄ p₅)

-- ---- write_open

pub ok_short : (container_id : List ℕ) (max_frame_size channel_max : ℕ) (b : Bool) → b ≡ settings_ok container_id max_frame_size channel_max → b ≡ true → length container_id ≤ 255
ok_short container_id max_frame_size channel_max b e q = (settings_within container_id max_frame_size channel_max (sym e ∙ q)).id_short

-- room for the fields, after what stands before them
pub fields_room : (fs : List (List ℕ)) (code count size n at : ℕ) (d o : List ℕ) (h : List ℕ) → Sized fs count size → n ≡ 8 + length (composite_header code count size) + size → at ≡ 8 + length (composite_header code count size) → 16384 ≤ length d → o ≡ put d 0 h → at + length (joined (trimmed fs)) ≤ length o
fields_room fs code count size n at d o h z e a room p =
    let few : length (composite_header code count size) ≤ 12 = header_few code count size in
    let s : size ≡ length (joined (trimmed fs)) = z.sizes in
    let l : length o ≡ length d = ap length p ∙ length_put d 0 h in
    let m : size ≤ 1000 = z.small in
    omega arith

module _ (S : Settings) (limit : ℕ) (out : List ℕ) where
  abbrev rule : Verdict (List ℕ)
  rule = write_open S limit out

  pub open_9 : length out < 16384 → Wrote rule (Err NoRoom) out out
  unfolding write_open
  open_9 h = wrote_9 _ limit _ out h

  module _ (room : 16384 ≤ length out) (b : Bool) (ok : b ≡ settings_ok S.container_id S.max_frame_size S.channel_max) where
    pub open_8 : b ≡ false → Wrote rule (Err OutOfBounds) out out
    unfolding write_open
    open_8 e = wrote_8 _ limit _ out room (sym ok ∙ e)

    module _ (fine : b ≡ true) (count size n : ℕ) (z : Sized (open_fields S) count size) (l : n ≡ 8 + length (composite_header 16 count size) + size) where
      pub open_27 : limit < n → Wrote rule (Err OverWritingLimit) out out
      unfolding write_open
      open_27 h = wrote_27 _ limit _ out room (sym ok ∙ fine) n (framed_length 16 count size _ z.counts z.sizes n l) h

      pub open_wrote : n ≤ limit → (at : ℕ) (o₁ o₂ : List ℕ) → at ≡ 8 + length (composite_header 16 count size)
          → o₁ ≡ put out 0 (frame_header n 0 ++ composite_header 16 count size) → o₂ ≡ put o₁ at (joined (trimmed (open_fields S))) → Wrote rule (Ok n) out o₂
      unfolding write_open
      open_wrote h at o₁ o₂ a p q =
          let few : length (composite_header 16 count size) ≤ 12 = header_few 16 count size in
          let m : size ≤ 1000 = z.small in
          wrote_frame _ limit _ out room (sym ok ∙ fine) n (framed_length 16 count size _ z.counts z.sizes n l) h (omega arith) o₂
          (framed 16 count size _ z.counts z.sizes n l out o₁ o₂ at a (omega arith) p q)

-- ---- error_ok

module _ (t : ErrorText) where
  pub condition_long : 255 < length t.condition → false ≡ error_ok t
  unfolding error_ok
  condition_long h = rw (lt-leb _ _ h)

  module _ (short : length t.condition ≤ 255) (a : Bool) (u : a ≡ ascii t.condition) where
    pub condition_no_text : a ≡ false → false ≡ error_ok t
    unfolding error_ok
    condition_no_text e = rw (le-leb _ _ short, ← u, e)

    pub condition_text : a ≡ true → (r : Bool) → r ≡ description_ok t.description → r ≡ error_ok t
    unfolding error_ok
    condition_text x r e = rw (le-leb _ _ short, ← u, x) e

description_is_short : (o : Option (List ℕ)) (d : List ℕ) (l : Bool) → leb (length d) 255 ≡ l → description_ok o ≡ true → o ≡ Some d → length d ≤ 255
description_is_short o d true e q t = leb-true _ _ e
description_is_short o d false e q t = absurd (false≢true (rw (t, e) at q))

error_short_at : (t : ErrorText) (l a : Bool) → leb (length t.condition) 255 ≡ l → ascii t.condition ≡ a → error_ok t ≡ true → Short t
unfolding error_ok
error_short_at t true true e u q =
    record { condition_short = leb-true _ _ e; description_short = λ d. description_is_short t.description d (leb (length d) 255) refl (rw (e, u) at q) }
error_short_at t true false e u q = absurd (false≢true (rw (e, u) at q))
error_short_at t false a e u q = absurd (false≢true (rw e at q))

pub error_short : (t : ErrorText) (r : Bool) → r ≡ error_ok t → r ≡ true → Short t
error_short t r e x = error_short_at t (leb (length t.condition) 255) (ascii t.condition) refl refl (sym e ∙ x)

-- ---- the fields of an error

text_not_null_at : (t : Text) (bs : List ℕ) (b : Bool) → leb (length bs) 255 ≡ b → is_null (text (code_of t) bs) ≡ false
unfolding text text_header starts_with
text_not_null_at String bs true e = rw e
text_not_null_at String bs false e = rw e
text_not_null_at Symbol bs true e = rw e
text_not_null_at Symbol bs false e = rw e

text_not_null : (t : Text) (bs : List ℕ) → is_null (text (code_of t) bs) ≡ false
text_not_null t bs = text_not_null_at t bs (leb (length bs) 255) refl

texts_one : (t : ErrorText) → t.description ≡ None → trimmed (error_fields t) ≡ text 0xa3 t.condition ∷ []
unfolding error_fields description_field trimmed starts_with
texts_one t e = rw e (rw (text_not_null Symbol t.condition))

texts_two : (t : ErrorText) (d : List ℕ) → t.description ≡ Some d → trimmed (error_fields t) ≡ text 0xa3 t.condition ∷ text 0xa1 d ∷ []
unfolding error_fields description_field trimmed
texts_two t d e = rw e (rw (text_not_null String d))

module _ (k : List ℕ) (o : Option (Bor (List ℕ))) where
  abbrev told : ErrorText
  told = record { condition = k; description = option_copied o }

  module _ (short : Short told) (n : ℕ) (p : n ≡ length (text 0xa3 k)) (l : n ≤ 5 + length k) where
    pub fields_two : (d : Bor (List ℕ)) → o ≡ Some d → (m : ℕ) → m ≡ length (text 0xa1 d.now) → m ≤ 5 + length d.now → ErrorSized told 2 (n + m)
    unfolding joined
    fields_two d t m q h =
        let s : told.description ≡ Some d.now = ap option_copied t in
        let x : length k ≤ 255 = short.condition_short in
        let y : length d.now ≤ 255 = short.description_short d.now s in
        record {
          counts = rw (texts_two told d.now s);
          sizes = rw (texts_two told d.now s) (omega (arith, length-append (text 0xa3 k) (text 0xa1 d.now ++ []), length-append (text 0xa1 d.now) []));
          small = omega arith;
        }

    pub fields_one : o ≡ None → ErrorSized told 1 n
    unfolding joined
    fields_one t =
        let s : told.description ≡ None = ap option_copied t in
        let x : length k ≤ 255 = short.condition_short in
        record { counts = rw (texts_one told s); sizes = rw (texts_one told s) (omega (arith, length-append (text 0xa3 k) [])); small = omega arith }

  -- ---- put_texts

  module _ (out : List ℕ) (at : ℕ) (room : at + length (joined (trimmed (error_fields told))) ≤ length out) (o₁ : List ℕ) (e : o₁ ≡ put out at (text 0xa3 k)) where
    pub texts_laid_one : o ≡ None → o₁ ≡ put out at (joined (trimmed (error_fields told)))
    unfolding joined
    texts_laid_one t = rw (texts_one told (ap option_copied t), append-nil (text 0xa3 k)) e

    pub texts_laid_two : (d : Bor (List ℕ)) → o ≡ Some d → (n : ℕ) → n ≡ length (text 0xa3 k) → (o₂ : List ℕ) → o₂ ≡ put o₁ (at + n) (text 0xa1 d.now) → o₂ ≡ put out at (joined (trimmed (error_fields told)))
    unfolding joined
    texts_laid_two d t n p o₂ q =
        let j : joined (trimmed (error_fields told)) ≡ text 0xa3 k ++ text 0xa1 d.now = rw (texts_two told d.now (ap option_copied t), append-nil (text 0xa1 d.now)) in
        let r : at + length (text 0xa3 k ++ text 0xa1 d.now) ≤ length out = rw j at room in
        rw j (put_more (text 0xa3 k) (text 0xa1 d.now) out o₁ o₂ at (at + n) (omega arith) (omega (arith, length-append (text 0xa3 k) (text 0xa1 d.now))) e q)

-- ---- put_error

pub texts_room : (e : ErrorText) (count size at : ℕ) (out o₁ h : List ℕ) → ErrorRoom e count size at (length out) → (k : ℕ) → k ≡ length (composite_header 29 count size) → o₁ ≡ put out at h → at + k + length (joined (trimmed (error_fields e))) ≤ length o₁
texts_room e count size at out o₁ h z k l p =
    let s : size ≡ length (joined (trimmed (error_fields e))) = z.sized.sizes in
    let f : at + length (composite_header 29 count size) + size ≤ length out = z.fit in
    let m : length o₁ ≡ length out = ap length p ∙ length_put out at h in
    omega arith

pub error_laid : (e : ErrorText) (count size at : ℕ) (out o₁ o₂ : List ℕ) → ErrorRoom e count size at (length out) → (k : ℕ) → k ≡ length (composite_header 29 count size) → o₁ ≡ put out at (composite_header 29 count size) → o₂ ≡ put o₁ (at + k) (joined (trimmed (error_fields e))) → o₂ ≡ put out at (error_field (Some e))
unfolding error_field composite
error_laid e count size at out o₁ o₂ z k l p q =
    let c : count ≡ length (trimmed (error_fields e)) = z.sized.counts in
    let s : size ≡ length (joined (trimmed (error_fields e))) = z.sized.sizes in
    let f : at + length (composite_header 29 count size) + size ≤ length out = z.fit in
    put_more (composite_header 29 count size) (joined (trimmed (error_fields e))) out o₁ o₂ at (at + k) (omega arith) (omega arith) p q
    ∙ ap (λ (x : List ℕ). put out at (x ++ joined (trimmed (error_fields e)))) (ap (λ (n : ℕ). composite_header 29 n size) c ∙ ap (composite_header 29 (length (trimmed (error_fields e)))) s)

-- ---- the writers of Close

error_not_null : (e : ErrorText) → is_null (error_field (Some e)) ≡ false
unfolding error_field composite composite_header starts_with
error_not_null e = refl

error_length : (e : ErrorText) (count size k : ℕ) → ErrorSized e count size → k ≡ length (composite_header 29 count size) + size → k ≡ length (error_field (Some e))
unfolding error_field composite
error_length e count size k z l =
    l ∙ rw (← z.counts, ← z.sizes, length-append) (rw (← z.sizes) refl)

-- a Close has one field, the error
pub close_sized : (e : ErrorText) (count size k : ℕ) → ErrorSized e count size → k ≡ length (composite_header 29 count size) + size → k ≤ 1000 → Sized (error_field (Some e) ∷ []) 1 k
unfolding joined trimmed
close_sized e count size k z l h =
    record {
      counts = rw (error_not_null e);
      sizes = rw (error_not_null e) (error_length e count size k z l ∙ ap length (sym (append-nil (error_field (Some e)))));
      small = h;
    }

close_joined : (e : ErrorText) → joined (trimmed (error_field (Some e) ∷ [])) ≡ error_field (Some e)
unfolding joined trimmed
close_joined e = rw (error_not_null e) (append-nil (error_field (Some e)))

pub error_room : (e : ErrorText) (count size k at : ℕ) (d o h : List ℕ) → ErrorSized e count size → k ≡ length (composite_header 29 count size) + size → k ≤ 1000 → at ≡ 8 + length (composite_header 24 1 k) → 16384 ≤ length d → o ≡ put d 0 h → ErrorRoom e count size at (length o)
error_room e count size k at d o h z l small a room p =
    let few : length (composite_header 24 1 k) ≤ 12 = header_few 24 1 k in
    let m : length o ≡ length d = ap length p ∙ length_put d 0 h in
    record { sized = z; fit = omega arith }

module _ (t : ErrorText) (limit : ℕ) (out : List ℕ) where
  abbrev close_rule : Verdict (List ℕ)
  close_rule = write_close (Some t) limit out

  pub close_9 : length out < 16384 → Wrote close_rule (Err NoRoom) out out
  unfolding write_close
  close_9 h = wrote_9 _ limit _ out h

  module _ (room : 16384 ≤ length out) (b : Bool) (ok : b ≡ error_ok t) where
    pub close_8 : b ≡ false → Wrote close_rule (Err OutOfBounds) out out
    unfolding write_close
    close_8 e = wrote_8 _ limit _ out room (sym ok ∙ e)

    module _ (fine : b ≡ true) (count size k n : ℕ) (z : ErrorSized t count size) (lk : k ≡ length (composite_header 29 count size) + size) (few : k ≤ 1000) (l : n ≡ 8 + length (composite_header 24 1 k) + k) where
      pub close_27 : limit < n → Wrote close_rule (Err OverWritingLimit) out out
      unfolding write_close
      close_27 h =
          let s : Sized (error_field (Some t) ∷ []) 1 k = close_sized t count size k z lk few in
          wrote_27 _ limit _ out room (sym ok ∙ fine) n (framed_length 24 1 k _ s.counts s.sizes n l) h

      pub close_wrote : n ≤ limit → (at : ℕ) (o₁ o₂ : List ℕ) → at ≡ 8 + length (composite_header 24 1 k)
          → o₁ ≡ put out 0 (frame_header n 0 ++ composite_header 24 1 k) → o₂ ≡ put o₁ at (error_field (Some t)) → Wrote close_rule (Ok n) out o₂
      unfolding write_close
      close_wrote h at o₁ o₂ a p q =
          let s : Sized (error_field (Some t) ∷ []) 1 k = close_sized t count size k z lk few in
          let tw : length (composite_header 24 1 k) ≤ 12 = header_few 24 1 k in
          wrote_frame _ limit _ out room (sym ok ∙ fine) n (framed_length 24 1 k _ s.counts s.sizes n l) h (omega arith) o₂
          (framed 24 1 k _ s.counts s.sizes n l out o₁ o₂ at a (omega arith) p (q ∙ ap (put o₁ at) (sym (close_joined t))))

-- ---- a Close without an error, and an empty frame

plain_bytes : frame_header 12 0 ++ composite_header 24 0 0 ≡ frame_bytes 0 (composite 24 (error_field None ∷ []))
unfolding frame_bytes frame_header bytes_of composite composite_header list_header error_field trimmed joined starts_with
plain_bytes = refl

module _ (limit : ℕ) (out : List ℕ) where
  pub plain_9 : length out < 16384 → Wrote (write_close None limit out) (Err NoRoom) out out
  unfolding write_close
  plain_9 h = wrote_9 _ limit _ out h

  pub empty_9 : length out < 16384 → Wrote (write_empty limit out) (Err NoRoom) out out
  unfolding write_empty
  empty_9 h = wrote_9 _ limit _ out h

  module _ (room : 16384 ≤ length out) where
    twelve : 12 ≡ length (frame_bytes 0 (composite 24 (error_field None ∷ [])))
    unfolding frame_bytes frame_header bytes_of composite composite_header list_header error_field trimmed joined starts_with
    twelve = refl

    pub plain_27 : limit < 12 → Wrote (write_close None limit out) (Err OverWritingLimit) out out
    unfolding write_close
    plain_27 h = wrote_27 _ limit _ out room refl 12 twelve h

    pub plain_wrote : 12 ≤ limit → (o : List ℕ) → o ≡ put out 0 (frame_header 12 0 ++ composite_header 24 0 0) → Wrote (write_close None limit out) (Ok 12) out o
    unfolding write_close
    plain_wrote h o q = wrote_frame _ limit _ out room refl 12 twelve h (omega arith) o (q ∙ ap (put out 0) plain_bytes)

    pub empty_27 : limit < 8 → Wrote (write_empty limit out) (Err OverWritingLimit) out out
    unfolding write_empty frame_bytes frame_header bytes_of
    empty_27 h = wrote_27 _ limit _ out room refl 8 refl h

    pub empty_wrote : 8 ≤ limit → (o : List ℕ) → o ≡ put out 0 (frame_header 8 0) → Wrote (write_empty limit out) (Ok 8) out o
    unfolding write_empty frame_bytes frame_header bytes_of
    empty_wrote h o q = wrote_frame _ limit _ out room refl 8 refl h (omega arith) o q
