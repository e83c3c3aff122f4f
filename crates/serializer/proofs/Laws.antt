-- The written form of values: how long each is, and how it comes about by writes one after the other.
-- Assumes nothing.
use mathlib.Core.Path.{◌≡◌, refl, ap, ◌∙◌}
use mathlib.Core.Bool.{Bool, true, false}
use mathlib.Core.List.{List, [], ◌∷◌, ◌++◌}
use Prim.Native.Nat.{ℕ, ◌+◌, ◌*◌, ◌-◌, ◌/◌, ◌%◌, ◌<◌, ◌≤◌}
use native.Mathlib.Omega.{arith}
use lib.ListN.{length, length-append}
use lib.Dec.{leb, eqb}
use mir.Syntax.{w8, w16, w32}
use mir.Val.{Fits}
use borrow.Author.Tests.{le-leb, lt-leb, eq-eqb, ne_eqb}
use Rattle.octets.specs.Octets.{bytes_of, put}
use Rattle.octets.proofs.Laws.{length_bytes_of, put_put, put_over}
use Rattle.serializer.specs.declared.Text.{Text}
use Rattle.serializer.specs.declared.Text.TheVariants.{String, Symbol}
use Rattle.serializer.specs.Answers.{code_of}
use Rattle.serializer.specs.Written.{uint, ushort, text_header, text, list_header, composite_header}

pub one_byte : (x : ℕ) → x < 256 → bytes_of 1 x ≡ x ∷ []
unfolding bytes_of
one_byte x g = let z : x / 1 % 256 ≡ x = omega arith in rw z

-- ---- uint

pub uint_none : (n : ℕ) → n ≡ 0 → uint n ≡ 0x43 ∷ []
unfolding uint
uint_none n e = rw e

pub uint_small : (n : ℕ) → (n ≡ 0 → ⊥) → n ≤ 255 → uint n ≡ 0x52 ∷ n ∷ []
unfolding uint
uint_small n z h = rw (ne_eqb _ _ z, le-leb _ _ h)

pub uint_large : (n : ℕ) → (n ≡ 0 → ⊥) → 255 < n → uint n ≡ 0x70 ∷ bytes_of 4 n
unfolding uint
uint_large n z h = rw (ne_eqb _ _ z, lt-leb _ _ h)

module _ (n : ℕ) where
  pub uint_len_none : n ≡ 0 → 1 ≡ length (uint n)
  uint_len_none e = rw (uint_none n e)

  pub uint_len_small : (n ≡ 0 → ⊥) → n ≤ 255 → 2 ≡ length (uint n)
  uint_len_small z h = rw (uint_small n z h)

  pub uint_len_large : (n ≡ 0 → ⊥) → 255 < n → 5 ≡ length (uint n)
  uint_len_large z h = rw (uint_large n z h, length_bytes_of)

  module _ (o d : List ℕ) (at : ℕ) where
    pub put_uint_none : n ≡ 0 → o ≡ put d at (bytes_of 1 67) → o ≡ put d at (uint n)
    unfolding bytes_of
    put_uint_none e q = rw (uint_none n e) q

    pub put_uint_small : (n ≡ 0 → ⊥) → n ≤ 255 → o ≡ put d at (bytes_of 2 (20992 + n)) → o ≡ put d at (uint n)
    unfolding bytes_of
    put_uint_small z h q =
        let a : (20992 + n) / 256 % 256 ≡ 82 = omega arith in
        let b : (20992 + n) / 1 % 256 ≡ n = omega arith in
        rw (uint_small n z h) (rw (a, b) at q)

    pub put_uint_large : Fits w32 n → (n ≡ 0 → ⊥) → 255 < n → o ≡ put d at (bytes_of 5 (481036337152 + n)) → o ≡ put d at (uint n)
    unfolding bytes_of
    put_uint_large f z h q =
        let a : (481036337152 + n) / 4294967296 % 256 ≡ 112 = omega arith in
        let b : (481036337152 + n) / 16777216 % 256 ≡ n / 16777216 % 256 = omega arith in
        let e : (481036337152 + n) / 65536 % 256 ≡ n / 65536 % 256 = omega arith in
        let g : (481036337152 + n) / 256 % 256 ≡ n / 256 % 256 = omega arith in
        let k : (481036337152 + n) / 1 % 256 ≡ n / 1 % 256 = omega arith in
        rw (uint_large n z h) (rw (a, b, e, g, k) at q)

-- ---- ushort

pub put_ushort_is : (o d : List ℕ) (at n : ℕ) → Fits w16 n → o ≡ put d at (bytes_of 3 (6291456 + n)) → o ≡ put d at (ushort n)
unfolding bytes_of ushort
put_ushort_is o d at n f q =
    let a : (6291456 + n) / 65536 % 256 ≡ 96 = omega arith in
    let b : (6291456 + n) / 256 % 256 ≡ n / 256 % 256 = omega arith in
    let e : (6291456 + n) / 1 % 256 ≡ n / 1 % 256 = omega arith in
    rw (a, b, e) at q

-- ---- strings and symbols

header_short : (code n : ℕ) → n ≤ 255 → text_header code n ≡ code ∷ n ∷ []
unfolding text_header
header_short code n h = rw (le-leb _ _ h)

header_long : (code n : ℕ) → 255 < n → text_header code n ≡ (code + 16) ∷ bytes_of 4 n
unfolding text_header
header_long code n h = rw (lt-leb _ _ h)

module _ (code : ℕ) (bs : List ℕ) where
  pub text_len_short : length bs ≤ 255 → 2 + length bs ≡ length (text code bs)
  unfolding text
  text_len_short h = rw (header_short code (length bs) h) (omega arith)

  pub text_len_long : 255 < length bs → 5 + length bs ≡ length (text code bs)
  unfolding text
  text_len_long h = rw (header_long code (length bs) h) (omega (arith, length-append (bytes_of 4 (length bs)) bs, length_bytes_of 4 (length bs)))

  module _ (d : List ℕ) (at n : ℕ) (e : n ≡ length (text code bs)) (past : at ≤ length d) where
    pub text_over : length d - at < n → d ≡ put d at (text code bs)
    text_over h = put_over d at (text code bs) n e h past

    module _ (room : n ≤ length d - at) (k : ℕ) (c : k ≡ code) (low : k < 256) where
      pub put_text_short : (o₁ o₂ : List ℕ) → length bs ≤ 255 → o₁ ≡ put d at (bytes_of 2 (k * 256 + length bs)) → o₂ ≡ put o₁ (at + 2) bs → o₂ ≡ put d at (text code bs)
      unfolding bytes_of text
      put_text_short o₁ o₂ h p q =
          let a : (k * 256 + length bs) / 256 % 256 ≡ k = omega arith in
          let b : (k * 256 + length bs) / 1 % 256 ≡ length bs = omega arith in
          let l : 2 + length bs ≡ length (text code bs) = text_len_short h in
          q ∙ rw (p, a, b, c, header_short code (length bs) h) (put_put (code ∷ length bs ∷ []) bs d at (omega arith))

      pub put_text_long : (o₁ o₂ o₃ : List ℕ) → 255 < length bs → o₁ ≡ put d at (bytes_of 1 (k + 16)) → o₂ ≡ put o₁ (at + 1) (bytes_of 4 (length bs)) → o₃ ≡ put o₂ (at + 5) bs → k + 16 < 256 → o₃ ≡ put d at (text code bs)
      unfolding text
      put_text_long o₁ o₂ o₃ h p q r f =
          let w : List ℕ = bytes_of 4 (length bs) in
          let a : bytes_of 1 (k + 16) ≡ (code + 16) ∷ [] = one_byte (k + 16) f ∙ ap (λ (x : ℕ). (x + 16) ∷ []) c in
          let l : 5 + length bs ≡ length (text code bs) = text_len_long h in
          let lw : length (bytes_of 4 (length bs)) ≡ 4 = length_bytes_of 4 (length bs) in
          let s₁ : o₂ ≡ put d at ((code + 16) ∷ bytes_of 4 (length bs)) = q ∙ rw (p, a) (put_put ((code + 16) ∷ []) (bytes_of 4 (length bs)) d at (omega arith)) in
          let m : at + 5 ≡ at + length ((code + 16) ∷ bytes_of 4 (length bs)) = omega arith in
          r ∙ rw (s₁, m) (put_put ((code + 16) ∷ bytes_of 4 (length bs)) bs d at (omega arith) ∙ rw (header_long code (length bs) h))

pub code_low : (t : Text) (k : ℕ) → k ≡ code_of t → k + 16 < 256
code_low String k e = omega arith
code_low Symbol k e = omega arith

-- ---- described lists

-- 00 53, the descriptor, and the code of the list
head_bytes_lem : (code k : ℕ) → code < 256 → k < 256 → bytes_of 4 ((21248 + code) * 256 + k) ≡ 0 ∷ 0x53 ∷ code ∷ k ∷ []
unfolding bytes_of
head_bytes_lem code k h g =
    let x₀ : ((21248 + code) * 256 + k) / 16777216 % 256 ≡ 0 = omega arith in
    let x₁ : ((21248 + code) * 256 + k) / 65536 % 256 ≡ 83 = omega arith in
    let x₂ : ((21248 + code) * 256 + k) / 256 % 256 ≡ code = omega arith in
    let x₃ : ((21248 + code) * 256 + k) / 1 % 256 ≡ k = omega arith in
    rw (x₀, x₁, x₂, x₃)

module _ (code count size : ℕ) where
  composite_none : count ≡ 0 → composite_header code count size ≡ 0 ∷ 0x53 ∷ code ∷ 0x45 ∷ []
  unfolding composite_header list_header
  composite_none e = rw (eq-eqb _ _ e)

  composite_small : (count ≡ 0 → ⊥) → size ≤ 254 → composite_header code count size ≡ 0 ∷ 0x53 ∷ code ∷ 0xc0 ∷ (size + 1) ∷ count ∷ []
  unfolding composite_header list_header
  composite_small z h = rw (ne_eqb _ _ z, le-leb _ _ h)

  composite_large : (count ≡ 0 → ⊥) → 254 < size → composite_header code count size ≡ (0 ∷ 0x53 ∷ code ∷ 0xd0 ∷ []) ++ bytes_of 4 (size + 4) ++ bytes_of 4 count
  unfolding composite_header list_header
  composite_large z h = rw (ne_eqb _ _ z, lt-leb _ _ h)

  pub header_len_none : count ≡ 0 → 4 ≡ length (composite_header code count size)
  header_len_none e = rw (composite_none e)

  pub header_len_small : (count ≡ 0 → ⊥) → size ≤ 254 → 6 ≡ length (composite_header code count size)
  header_len_small z h = rw (composite_small z h)

  pub header_len_large : (count ≡ 0 → ⊥) → 254 < size → 12 ≡ length (composite_header code count size)
  header_len_large z h = rw (composite_large z h) (omega (arith, length-append (bytes_of 4 (size + 4)) (bytes_of 4 count), length_bytes_of 4 (size + 4), length_bytes_of 4 count))

  module _ (d : List ℕ) (at : ℕ) (fc : Fits w8 code) where
    pub put_header_none : (o : List ℕ) → count ≡ 0 → o ≡ put d at (bytes_of 4 ((21248 + code) * 256 + 69)) → o ≡ put d at (composite_header code count size)
    put_header_none o z q = rw (composite_none z) (rw (head_bytes_lem code 69 (omega arith) (omega arith)) at q)

    pub put_header_small : (o : List ℕ) → Fits w8 count → (count ≡ 0 → ⊥) → size ≤ 254 → o ≡ put d at (bytes_of 6 ((((21248 + code) * 256 + 192) * 256 + (size + 1)) * 256 + count)) → o ≡ put d at (composite_header code count size)
    unfolding bytes_of
    put_header_small o fn z h q =
        let x₀ : ((((21248 + code) * 256 + 192) * 256 + (size + 1)) * 256 + count) / 1099511627776 % 256 ≡ 0 = omega arith in
        let x₁ : ((((21248 + code) * 256 + 192) * 256 + (size + 1)) * 256 + count) / 4294967296 % 256 ≡ 83 = omega arith in
        let x₂ : ((((21248 + code) * 256 + 192) * 256 + (size + 1)) * 256 + count) / 16777216 % 256 ≡ code = omega arith in
        let x₃ : ((((21248 + code) * 256 + 192) * 256 + (size + 1)) * 256 + count) / 65536 % 256 ≡ 192 = omega arith in
        let x₄ : ((((21248 + code) * 256 + 192) * 256 + (size + 1)) * 256 + count) / 256 % 256 ≡ size + 1 = omega arith in
        let x₅ : ((((21248 + code) * 256 + 192) * 256 + (size + 1)) * 256 + count) / 1 % 256 ≡ count = omega arith in
        rw (composite_small z h) (rw (x₀, x₁, x₂, x₃, x₄, x₅) at q)

    pub header_over : (count ≡ 0 → ⊥) → 254 < size → at ≤ length d → length d - at < 12 → d ≡ put d at (composite_header code count size)
    header_over z h past k = put_over d at (composite_header code count size) 12 (header_len_large z h) k past

    pub put_header_large : (o₁ o₂ o₃ : List ℕ) → (count ≡ 0 → ⊥) → 254 < size → at ≤ length d → 12 ≤ length d - at → o₁ ≡ put d at (bytes_of 4 ((21248 + code) * 256 + 208)) → o₂ ≡ put o₁ (at + 4) (bytes_of 4 (size + 4)) → o₃ ≡ put o₂ (at + 8) (bytes_of 4 count) → o₃ ≡ put d at (composite_header code count size)
    put_header_large o₁ o₂ o₃ z h past room p q r =
        let b₁ : bytes_of 4 ((21248 + code) * 256 + 208) ≡ 0 ∷ 0x53 ∷ code ∷ 0xd0 ∷ [] = head_bytes_lem code 208 (omega arith) (omega arith) in
        let l₂ : length (bytes_of 4 (size + 4)) ≡ 4 = length_bytes_of 4 (size + 4) in
        let l₃ : length (bytes_of 4 count) ≡ 4 = length_bytes_of 4 count in
        let s₂ : o₂ ≡ put d at ((0 ∷ 0x53 ∷ code ∷ 0xd0 ∷ []) ++ bytes_of 4 (size + 4)) = q ∙ rw (p, b₁) (put_put (0 ∷ 0x53 ∷ code ∷ 0xd0 ∷ []) (bytes_of 4 (size + 4)) d at (omega arith)) in
        let m : at + 8 ≡ at + length ((0 ∷ 0x53 ∷ code ∷ 0xd0 ∷ []) ++ bytes_of 4 (size + 4)) = omega arith in
        r ∙ rw (s₂, m) (put_put ((0 ∷ 0x53 ∷ code ∷ 0xd0 ∷ []) ++ bytes_of 4 (size + 4)) (bytes_of 4 count) d at (omega arith) ∙ rw (composite_large z h))

header_few_at : (code count size : ℕ) (a b : Bool) → eqb count 0 ≡ a → leb size 254 ≡ b → length (composite_header code count size) ≤ 12
unfolding composite_header list_header bytes_of
header_few_at code count size true b p q = rw p (omega arith)
header_few_at code count size false true p q = rw (p, q) (omega arith)
header_few_at code count size false false p q = rw (p, q) (omega arith)

-- at most twelve bytes stand before the fields
pub header_few : (code count size : ℕ) → length (composite_header code count size) ≤ 12
header_few code count size = header_few_at code count size (eqb count 0) (leb size 254) refl refl
