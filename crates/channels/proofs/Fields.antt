-- What is read of the tables after a field was written.
-- Assumes nothing.
use mathlib.Core.Path.{◌≡◌, refl, sym, ◌∙◌, ap}
use mathlib.Core.Bool.{Bool, true, false}
use mathlib.Core.List.{List}
use Prim.Native.Nat.{ℕ, suc, ◌+◌, ◌*◌, ◌≤◌, ◌<◌}
use native.Mathlib.Omega.{arith}
use native.Mathlib.Decide.{dec_le}
use lib.Dec.{leb}
use lib.ListN.{length}
use borrow.Author.Tests.{lt-ltb, le-ltb}
use Rattle.channels.specs.Places.{Covers, covers, field, write, put, past}
use Rattle.channels.proofs.Words.{length_store, word_same, word_other, past_store}
use Rattle.channels.proofs.Kept.{covers_true, covers_false}

-- ---- the test of a place

-- whether there is a place for number k
abbrev pub has_place : List ℕ → ℕ → Bool
has_place t k = covers (suc k) t

pub has_is : (t : List ℕ) (k : ℕ) → leb (28 * k + 28) (length t) ≡ has_place t k
unfolding covers
has_is t k = let e : 28 * k + 28 ≡ 28 * suc k = omega arith in ap (λ n. leb n (length t)) e

pub has_true : (t : List ℕ) (k : ℕ) (b : Bool) → b ≡ has_place t k → b ≡ true → Covers (suc k) t
has_true t k b p e = covers_true (suc k) t (sym p ∙ e)

pub has_false : (t : List ℕ) (k : ℕ) (b : Bool) → b ≡ has_place t k → b ≡ false → Covers (suc k) t → ⊥
has_false t k b p e = covers_false (suc k) t (sym p ∙ e)

-- ---- write

pub length_write : (s : List ℕ) (k f x : ℕ) → length (write s k f x) ≡ length s
unfolding write
length_write s k f x = length_store s (7 * k + f) x

-- a field that was written is read back
pub field_same : (s : List ℕ) (k f x : ℕ) → Covers (suc k) s → f < 7 → field (write s k f x) k f ≡ x
unfolding field write
field_same s k f x h l = word_same s (7 * k + f) x (omega arith)

-- another field is as before, of this number and of every other
pub field_beside : (s : List ℕ) (k f x j g : ℕ) → f < 7 → g < 7 → (f ≡ g → ⊥) → field (write s k f x) j g ≡ field s j g
unfolding field write
field_beside s k f x j g a b h = word_other s (7 * k + f) x (7 * j + g) (λ e. h (omega arith))

-- and so is every field of another number
pub field_apart : (s : List ℕ) (k f x j g : ℕ) → f < 7 → g < 7 → (k ≡ j → ⊥) → field (write s k f x) j g ≡ field s j g
unfolding field write
field_apart s k f x j g a b h = word_other s (7 * k + f) x (7 * j + g) (λ e. h (omega arith))

-- and so is what stands after its place
pub past_write : (s : List ℕ) (k f x n : ℕ) → f < 7 → k < n → past n (write s k f x) ≡ past n s
unfolding write
past_write s k f x n l m = past_store s (7 * k + f) x (28 * n) (omega arith)

-- ---- put

module _ (n : ℕ) (s : List ℕ) (k f x : ℕ) where
  put_there : k < n → write s k f x ≡ put n s k f x
  unfolding put
  put_there l = rw (lt-ltb k n l)

  put_beyond : n ≤ k → s ≡ put n s k f x
  unfolding put
  put_beyond l = rw (le-ltb k n l)

  -- what holds of the tables and of the tables with the field written holds of either
  put_either : (P : List ℕ → Type 0) → P s → (k < n → P (write s k f x)) → P (put n s k f x)
  put_either P a b = elim (dec_le n k) [
    | yes l ↦ rw (← put_beyond l) a
    | no l ↦ let m : k < n = omega arith in rw (← put_there m) (b m)
  ]

  pub length_put : length (put n s k f x) ≡ length s
  length_put = put_either (λ t. length t ≡ length s) refl (λ l. length_write s k f x)

  pub put_same : Covers n s → k < n → f < 7 → field (put n s k f x) k f ≡ x
  put_same c l m = rw (← put_there l) (field_same s k f x (omega arith) m)

  pub put_beside : (j g : ℕ) → f < 7 → g < 7 → (f ≡ g → ⊥) → field (put n s k f x) j g ≡ field s j g
  put_beside j g a b h = put_either (λ t. field t j g ≡ field s j g) refl (λ l. field_beside s k f x j g a b h)

  pub put_apart : (j g : ℕ) → f < 7 → g < 7 → (k ≡ j → ⊥) → field (put n s k f x) j g ≡ field s j g
  put_apart j g a b h = put_either (λ t. field t j g ≡ field s j g) refl (λ l. field_apart s k f x j g a b h)

  pub past_put : (m : ℕ) → f < 7 → n ≤ m → past m (put n s k f x) ≡ past m s
  past_put m l q = put_either (λ t. past m t ≡ past m s) refl (λ r. past_write s k f x m l (omega arith))

  -- the function's two returns
  pub puts_not : (top : ℕ) → n ≡ suc top → top < k → s ≡ put n s k f x
  puts_not top e l = put_beyond (omega arith)

  pub puts : (top : ℕ) → n ≡ suc top → k ≤ top → (s' : List ℕ) → s' ≡ write s k f x → s' ≡ put n s k f x
  puts top e l s' q = q ∙ put_there (omega arith)
