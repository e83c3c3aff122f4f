-- What is read of a slice after a number was stored in it.
-- Assumes nothing.
use mathlib.Core.Path.{◌≡◌, sym, ◌∙◌}
use mathlib.Core.List.{List, [], ◌∷◌}
use Prim.Native.Nat.{ℕ, suc, ◌+◌, ◌*◌, ◌-◌, ◌/◌, ◌%◌, ◌≤◌, ◌<◌}
use native.Mathlib.Omega.{arith}
use lib.ListN.{length, get_or, set, drop, length-set}
use lib.Seq.{get_or-set_same, get_or-set_other, drop-set-lt, sets-eq}
use borrow.Rule.Slice.PartMut.{put_mid}
use borrow.Author.Rules.{rules}
use Rattle.std.proofs.lemmas.Slice.{overwrites}
use Rattle.octets.specs.Octets.{put}
use Rattle.octets.proofs.Laws.{put_fits}
use Rattle.channels.specs.Places.{word, store}

-- four elements from `at` on become these
abbrev four : List ℕ → ℕ → ℕ → ℕ → ℕ → ℕ → List ℕ
four s at a b c d = set (set (set (set s at a) (at + 1) b) (at + 2) c) (at + 3) d

module _ (s : List ℕ) (at a b c d : ℕ) where
  four_other : (j : ℕ) → (at ≤ j → j < at + 4 → ⊥) → get_or (four s at a b c d) j 0 ≡ get_or s j 0
  four_other j h =
      get_or-set_other (set (set (set s at a) (at + 1) b) (at + 2) c) (at + 3) j d 0 (λ e. h (omega arith) (omega arith))
      ∙ get_or-set_other (set (set s at a) (at + 1) b) (at + 2) j c 0 (λ e. h (omega arith) (omega arith))
      ∙ get_or-set_other (set s at a) (at + 1) j b 0 (λ e. h (omega arith) (omega arith))
      ∙ get_or-set_other s at j a 0 (λ e. h (omega arith) (omega arith))

  module _ (l : at + 4 ≤ length s) where
    four_0 : get_or (four s at a b c d) at 0 ≡ a
    four_0 =
        get_or-set_other (set (set (set s at a) (at + 1) b) (at + 2) c) (at + 3) at d 0 (λ e. omega arith)
        ∙ get_or-set_other (set (set s at a) (at + 1) b) (at + 2) at c 0 (λ e. omega arith)
        ∙ get_or-set_other (set s at a) (at + 1) at b 0 (λ e. omega arith)
        ∙ get_or-set_same s at a 0 (omega arith)

    four_1 : get_or (four s at a b c d) (at + 1) 0 ≡ b
    four_1 =
        get_or-set_other (set (set (set s at a) (at + 1) b) (at + 2) c) (at + 3) (at + 1) d 0 (λ e. omega arith)
        ∙ get_or-set_other (set (set s at a) (at + 1) b) (at + 2) (at + 1) c 0 (λ e. omega arith)
        ∙ get_or-set_same (set s at a) (at + 1) b 0 (omega (arith, length-set s at a))

    four_2 : get_or (four s at a b c d) (at + 2) 0 ≡ c
    four_2 =
        get_or-set_other (set (set (set s at a) (at + 1) b) (at + 2) c) (at + 3) (at + 2) d 0 (λ e. omega arith)
        ∙ get_or-set_same (set (set s at a) (at + 1) b) (at + 2) c 0 (omega (arith, length-set s at a, length-set (set s at a) (at + 1) b))

    four_3 : get_or (four s at a b c d) (at + 3) 0 ≡ d
    four_3 =
        get_or-set_same (set (set (set s at a) (at + 1) b) (at + 2) c) (at + 3) d 0
        (omega (arith, length-set s at a, length-set (set s at a) (at + 1) b, length-set (set (set s at a) (at + 1) b) (at + 2) c))

-- what is copied into the part of its length is put there
copied : (d src : List ℕ) (at : ℕ) → at ≤ length d → length src ≤ length d - at → put_mid at (at + length src - at) d src ≡ put d at src
copied d src at past h =
    let n : at + length src - at ≡ length src = omega arith in
    rw (n, put_fits d at src (omega arith)) (search (rules, overwrites))

-- four bytes that are copied into a slice
put_four : (s : List ℕ) (at a b c d : ℕ) → at + 4 ≤ length s → put_mid at (at + 4 - at) s (a ∷ b ∷ c ∷ d ∷ []) ≡ four s at a b c d
put_four s at a b c d h =
    let p : at + 1 ≡ suc at = omega arith in
    let q : at + 2 ≡ suc (suc at) = omega arith in
    let r : at + 3 ≡ suc (suc (suc at)) = omega arith in
    copied s (a ∷ b ∷ c ∷ d ∷ []) at (omega arith) (omega arith)
    ∙ put_fits s at (a ∷ b ∷ c ∷ d ∷ []) h
    ∙ sym (sets-eq (a ∷ b ∷ c ∷ d ∷ []) s at h)
    ∙ rw (p, q, r)

pub stored : (s : List ℕ) (i x : ℕ) (ys : List ℕ) → 4 * i + 4 ≤ length s → x < 4294967296
    → ys ≡ x / 16777216 % 256 ∷ x / 65536 % 256 ∷ x / 256 % 256 ∷ x % 256 ∷ [] → put_mid (4 * i) (4 * i + 4 - 4 * i) s ys ≡ store s i x
unfolding store
stored s i x ys h l e =
    let z : x / 16777216 % 256 ≡ x / 16777216 = omega arith in
    rw (e, z) (put_four s (4 * i) (x / 16777216) (x / 65536 % 256) (x / 256 % 256) (x % 256) h)

pub length_store : (s : List ℕ) (i x : ℕ) → length (store s i x) ≡ length s
unfolding store
length_store s i x = simp length-set

-- a stored number is read back
pub word_same : (s : List ℕ) (i x : ℕ) → 4 * i + 4 ≤ length s → word (store s i x) i ≡ x
unfolding word store
word_same s i x h =
    omega (
      arith,
      four_0 s (4 * i) (x / 16777216) (x / 65536 % 256) (x / 256 % 256) (x % 256) h,
      four_1 s (4 * i) (x / 16777216) (x / 65536 % 256) (x / 256 % 256) (x % 256) h,
      four_2 s (4 * i) (x / 16777216) (x / 65536 % 256) (x / 256 % 256) (x % 256) h,
      four_3 s (4 * i) (x / 16777216) (x / 65536 % 256) (x / 256 % 256) (x % 256) h,
    )

-- and every other number is as before
pub word_other : (s : List ℕ) (i x j : ℕ) → (i ≡ j → ⊥) → word (store s i x) j ≡ word s j
unfolding word store
word_other s i x j h =
    omega (
      arith,
      four_other s (4 * i) (x / 16777216) (x / 65536 % 256) (x / 256 % 256) (x % 256) (4 * j) (λ p q. h (omega arith)),
      four_other s (4 * i) (x / 16777216) (x / 65536 % 256) (x / 256 % 256) (x % 256) (4 * j + 1) (λ p q. h (omega arith)),
      four_other s (4 * i) (x / 16777216) (x / 65536 % 256) (x / 256 % 256) (x % 256) (4 * j + 2) (λ p q. h (omega arith)),
      four_other s (4 * i) (x / 16777216) (x / 65536 % 256) (x / 256 % 256) (x % 256) (4 * j + 3) (λ p q. h (omega arith)),
    )

-- and so is what stands after it
pub past_store : (s : List ℕ) (i x m : ℕ) → 4 * i + 4 ≤ m → drop m (store s i x) ≡ drop m s
unfolding store
past_store s i x m h =
    drop-set-lt m (set (set (set s (4 * i) (x / 16777216)) (4 * i + 1) (x / 65536 % 256)) (4 * i + 2) (x / 256 % 256)) (4 * i + 3) (x % 256) (omega arith)
    ∙ drop-set-lt m (set (set s (4 * i) (x / 16777216)) (4 * i + 1) (x / 65536 % 256)) (4 * i + 2) (x / 256 % 256) (omega arith)
    ∙ drop-set-lt m (set s (4 * i) (x / 16777216)) (4 * i + 1) (x / 65536 % 256) (omega arith)
    ∙ drop-set-lt m s (4 * i) (x / 16777216) (omega arith)
