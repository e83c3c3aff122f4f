-- What a call on one part of the tables keeps of the other, and the test of enough places.
-- Assumes nothing.
use mathlib.Core.Path.{◌≡◌, refl, sym, ◌∙◌, ap, fun_ext}
use mathlib.Core.Bool.{true, false}
use mathlib.Core.List.{List, ◌∷◌}
use Prim.Native.Nat.{ℕ, zero, suc, ◌*◌, ◌≤◌}
use native.Mathlib.Omega.{arith}
use native.Mathlib.Decide.{dec_le}
use lib.ListN.{length}
use borrow.Author.Tests.{le-leb, lt-leb}
use Rattle.channels.specs.Places.{Covers, covers, field, Keeps}
use Rattle.channels.specs.Numbers.{one}
use Rattle.channels.specs.Ties.{through}
use Rattle.channels.specs.Channels.{chain, hand_out_says, taken_says, Sound}
use Rattle.channels.specs.Lists.{ties_says, Listed}
use Rattle.channels.specs.declared.OutgoingChannels.{OutgoingChannels}
use Rattle.channels.proofs.Lists.{same_right}

-- ---- enough places

pub covers_is : (n : ℕ) (t : List ℕ) → Covers n t → covers n t ≡ true
unfolding covers
covers_is n t c = le-leb (28 * n) (length t) c

pub covers_not : (n : ℕ) (t : List ℕ) → (Covers n t → ⊥) → covers n t ≡ false
unfolding covers
covers_not n t c = elim (dec_le (28 * n) (length t)) [
  | yes l ↦ absurd (c l)
  | no l ↦ lt-leb (28 * n) (length t) (omega arith)
]

pub covers_true : (n : ℕ) (t : List ℕ) → covers n t ≡ true → Covers n t
covers_true n t e = elim (dec_le (28 * n) (length t)) [
  | yes l ↦ l
  | no l ↦ let q = covers_not n t l in let z : ◌≡◌ {A = ℕ} 0 1 = cc in absurd (omega arith)
]

pub covers_false : (n : ℕ) (t : List ℕ) → covers n t ≡ false → Covers n t → ⊥
covers_false n t e c = let q = covers_is n t c in let z : ◌≡◌ {A = ℕ} 0 1 = cc in omega arith

pub covers_kept : (n : ℕ) (s s' : List ℕ) → length s' ≡ length s → Covers n s → Covers n s'
covers_kept n s s' e c = omega arith

pub covers_fewer : (m n : ℕ) (t : List ℕ) → m ≤ n → Covers n t → Covers m t
covers_fewer m n t l c = omega arith

-- ---- one part of the tables while the other changes

-- the ties while numbers change, and the numbers while ties do
abbrev pub KeepsTies : OutgoingChannels → List ℕ → List ℕ → Type 0
KeepsTies t s s' = Keeps 2 7 (suc t.highest) s s'

abbrev pub KeepsNumbers : ℕ → List ℕ → List ℕ → Type 0
KeepsNumbers n s s' = Keeps 0 2 n s s'

pub ties_same : (t : OutgoingChannels) (s : List ℕ) → KeepsTies t s s
ties_same t s = record { long = refl; same = λ k f m l. refl; rest = λ n l. refl }

pub numbers_same : (n : ℕ) (s : List ℕ) → KeepsNumbers n s s
numbers_same n s = record { long = refl; same = λ k f m l. refl; rest = λ m l. refl }

pub ties_kept : (n : ℕ) (t : OutgoingChannels) (s s' : List ℕ) → KeepsTies t s s' → ties_says n s' ≡ ties_says n s
unfolding ties_says
ties_kept n t s s' k = fun_ext (λ j. rw (k.same j 3 (omega arith) (omega arith), k.same j 4 (omega arith) (omega arith)))

pub listed_kept : (n : ℕ) (t : OutgoingChannels) (s s' : List ℕ) → KeepsTies t s s' → Listed n s → Listed n s'
listed_kept n t s s' e i = record {
  covered = covers_kept n s s' e.long i.covered;
  lists = i.lists;
  agree = record {
    linked = λ ch l.
        rw (e.same ch 2 (omega arith) (omega arith))
        (same_right s s' 0 (field s ch 2) (i.lists ch) (λ k x. (e.same k 5 (omega arith) (omega arith), e.same k 6 (omega arith) (omega arith))) (i.agree.linked ch l));
    each = λ ch k. i.agree.each ch k ∙ sym (ap (λ f. one (through ch (f k))) (ties_kept n t s s' e));
    low = λ k u q. i.agree.low k u (sym (ap (λ f. f k) (ties_kept n t s s' e)) ∙ q);
  };
}

chain_kept : (n : ℕ) (s s' : List ℕ) → KeepsNumbers n s s' → (k m : ℕ) → chain s' k m ≡ chain s k m
unfolding chain
chain_kept n s s' e k zero = refl
chain_kept n s s' e k (suc m) = rw (e.same k 0 (omega arith) (omega arith)) (ap (λ l. k ∷ l) (chain_kept n s s' e (field s k 0) m))

module _ (n : ℕ) (t : OutgoingChannels) (s s' : List ℕ) (e : KeepsNumbers n s s') where
  pub hand_out_kept : hand_out_says t s' ≡ hand_out_says t s
  unfolding hand_out_says
  hand_out_kept = rw (chain_kept n s s' e t.head t.freed)

  pub taken_kept : taken_says t s' ≡ taken_says t s
  unfolding taken_says
  taken_kept = fun_ext (λ k. rw (e.same k 0 (omega arith) (omega arith), e.same k 1 (omega arith) (omega arith)))

  pub numbers_kept : Sound t s → Sound t s'
  numbers_kept i = record {
    within = i.within;
    covered = covers_kept (suc t.highest) s s' e.long i.covered;
    shared = rw (hand_out_kept, taken_kept) i.shared;
  }
