-- The tables after a number was taken or freed, and the list of the freed numbers.
-- Assumes nothing.
use mathlib.Core.Path.{◌≡◌, refl, sym, ◌∙◌, ap}
use mathlib.Core.List.{List, [], ◌∷◌, ◌++◌}
use Prim.Native.Nat.{ℕ, zero, suc, ◌+◌, ◌-◌, ◌≤◌, ◌<◌}
use native.Mathlib.Omega.{arith}
use native.Mathlib.Numerals.{add-one}
use native.Mathlib.Decide.{ℕ_discrete}
use lib.Dec.{eqb}
use lib.ListN.{length}
use borrow.Author.Tests.{eq-eqb}
use Rattle.channels.specs.Places.{Covers, field, write}
use Rattle.channels.specs.Numbers.{one, count, up_from}
use Rattle.channels.specs.declared.OutgoingChannels.{OutgoingChannels}
use Rattle.channels.specs.Channels.{chain}
use Rattle.channels.proofs.Kept.{KeepsTies}
use Rattle.channels.proofs.Fields.{length_write, field_same, field_beside, field_apart, past_write}

-- ---- the tables once number k is taken by handle h, and once it is free again

abbrev pub taken_by : List ℕ → ℕ → ℕ → List ℕ
taken_by s k h = write (write s k 0 65536) k 1 h

abbrev pub freed_before : List ℕ → ℕ → ℕ → List ℕ
freed_before s k next = write s k 0 next

module _ (s : List ℕ) (k h : ℕ) where
  pub taken_long : length (taken_by s k h) ≡ length s
  taken_long = length_write (write s k 0 65536) k 1 h ∙ length_write s k 0 65536

  pub taken_apart : (j f : ℕ) → f < 7 → (k ≡ j → ⊥) → field (taken_by s k h) j f ≡ field s j f
  taken_apart j f l n = field_apart (write s k 0 65536) k 1 h j f (omega arith) l n ∙ field_apart s k 0 65536 j f (omega arith) l n

  pub taken_ties : (t : OutgoingChannels) → k ≤ t.highest → KeepsTies t s (taken_by s k h)
  taken_ties t l = record {
    long = taken_long;
    same = λ j f m n.
        field_beside (write s k 0 65536) k 1 h j f (omega arith) (omega arith) (λ e. omega arith)
        ∙ field_beside s k 0 65536 j f (omega arith) (omega arith) (λ e. omega arith);
    rest = λ n m. past_write (write s k 0 65536) k 1 h n (omega arith) (omega arith) ∙ past_write s k 0 65536 n (omega arith) (omega arith);
  }

  module _ (c : Covers (suc k) s) where
    pub taken_link : field (taken_by s k h) k 0 ≡ 65536
    taken_link = field_beside (write s k 0 65536) k 1 h k 0 (omega arith) (omega arith) (λ e. omega arith) ∙ field_same s k 0 65536 c (omega arith)

    pub taken_handle : field (taken_by s k h) k 1 ≡ h
    taken_handle = field_same (write s k 0 65536) k 1 h (omega (arith, length_write s k 0 65536)) (omega arith)

module _ (s : List ℕ) (k next : ℕ) where
  pub freed_long : length (freed_before s k next) ≡ length s
  freed_long = length_write s k 0 next

  pub freed_ties : (t : OutgoingChannels) → k ≤ t.highest → KeepsTies t s (freed_before s k next)
  freed_ties t l = record {
    long = freed_long;
    same = λ j f m n. field_beside s k 0 next j f (omega arith) (omega arith) (λ e. omega arith);
    rest = λ n m. past_write s k 0 next n (omega arith) (omega arith);
  }

-- ---- the freed numbers

pub chain_length : (s : List ℕ) (k n : ℕ) → length (chain s k n) ≡ n
unfolding chain
chain_length s k zero = refl
chain_length s k (suc n) = ap suc (chain_length s (field s k 0) n)

pub chain_none : (s : List ℕ) (k n : ℕ) → n ≡ 0 → chain s k n ≡ []
unfolding chain
chain_none s k n e = rw e

-- a chain without its first number
pub chain_pop : (s : List ℕ) (k n : ℕ) → (n ≡ 0 → ⊥) → chain s k n ≡ k ∷ chain s (field s k 0) (n - 1)
unfolding chain
chain_pop s k zero h = absurd (h refl)
chain_pop s k (suc n) h = let e : n ≡ suc n - 1 = omega arith in ap (λ x. k ∷ chain s (field s k 0) x) e

-- the link of a number that is not in a chain may change
pub chain_same : (s s' : List ℕ) (j k n : ℕ) → ((i : ℕ) → (j ≡ i → ⊥) → field s' i 0 ≡ field s i 0) → count j (chain s k n) ≡ 0 → chain s' k n ≡ chain s k n
unfolding chain
chain_same s s' j k zero f h = refl
chain_same s s' j k (suc n) f h = elim (ℕ_discrete k j) [
  | yes e ↦ let q : one (eqb k j) ≡ 1 = ap one (eq-eqb k j e) in let z : ⊥ = omega arith in absurd z
  | no e ↦ rw (f k (λ p. e (sym p))) (ap (λ l. k ∷ l) (chain_same s s' j (field s k 0) n f (omega arith)))
]

-- ---- lists

pub count_append : (k : ℕ) (a b : List ℕ) → count k (a ++ b) ≡ count k a + count k b
count_append k [] b = omega arith
count_append k (j ∷ a) b = omega (arith, count_append k a b)

-- a list has its first number
pub count_first : (k : ℕ) (l : List ℕ) → count k (k ∷ l) ≡ suc (count k l)
count_first k l = let e : one (eqb k k) ≡ 1 = ap one (eq-eqb k k refl) in omega arith

pub length_up : (k n : ℕ) → length (up_from k n) ≡ n
length_up k zero = refl
length_up k (suc n) = ap suc (length_up (suc k) n)

pub up_pop : (k n : ℕ) → (n ≡ 0 → ⊥) → up_from k n ≡ k ∷ up_from (k + 1) (n - 1)
up_pop k zero h = absurd (h refl)
up_pop k (suc n) h = let e : n ≡ suc n - 1 = omega arith in rw (add-one k, ← e)
