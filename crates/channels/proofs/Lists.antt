-- Lists linked both ways, taken apart at one of their channels.
-- Assumes nothing.
use mathlib.Core.Path.{◌≡◌, refl, ◌∙◌, ap}
use mathlib.Core.Bool.{cond}
use mathlib.Core.List.{List, [], ◌∷◌}
use Prim.Native.Nat.{ℕ, suc, ◌+◌, ◌≤◌}
use native.Mathlib.Omega.{arith}
use native.Mathlib.Decide.{ℕ_discrete}
use lib.Dec.{eqb}
use borrow.Author.Tests.{eq-eqb, ne_eqb}
use Rattle.channels.specs.Places.{field}
use Rattle.channels.specs.Numbers.{one, count}
use Rattle.channels.specs.Lists.{Lists, Linked}

pub count_same : (k : ℕ) (l : List ℕ) → count k (k ∷ l) ≡ 1 + count k l
count_same k l = rw (eq-eqb k k refl) (omega arith)

pub count_other : (j k : ℕ) (l : List ℕ) → (j ≡ k → ⊥) → count k (j ∷ l) ≡ count k l
count_other j k l h = rw (ne_eqb j k h) (omega arith)

-- ---- another list for one channel

abbrev pub with_list : Lists → ℕ → List ℕ → Lists
with_list f ch l d = cond (eqb ch d) l (f d)

pub with_same : (f : Lists) (ch : ℕ) (l : List ℕ) → with_list f ch l ch ≡ l
with_same f ch l = rw (eq-eqb ch ch refl)

pub with_other : (f : Lists) (ch : ℕ) (l : List ℕ) (d : ℕ) → (ch ≡ d → ⊥) → with_list f ch l d ≡ f d
with_other f ch l d h = rw (ne_eqb ch d h)

-- ---- a list from a gap in it

-- the channels of a, last first, before those of l
abbrev pub before : List ℕ → List ℕ → List ℕ
before [] l = l
before (z ∷ a) l = before a (z ∷ l)

pub count_before : (k : ℕ) (a l : List ℕ) → count k (before a l) ≡ count k a + count k l
count_before k [] l = omega arith
count_before k (z ∷ a) l = omega (arith, count_before k a (z ∷ l))

-- what is left of a gap: h is where the list starts, p is one more than the last channel before the gap, e one more than the first after it
abbrev pub Left : List ℕ → ℕ → ℕ → ℕ → List ℕ → Type 0
Left s h p e [] = (p ≡ 0) × (h ≡ e)
Left s h p e (z ∷ a) = (p ≡ suc z) × (field s z 5 ≡ e) × Left s h (field s z 6) (suc z) a

-- a list that is put together again
pub joined : (s : List ℕ) (h p e : ℕ) (a l : List ℕ) → Left s h p e a → Linked s p e l → Linked s 0 h (before a l)
joined s h p e [] l x y = rw (x.1, ← x.0) y
joined s h p e (z ∷ a) l x y = joined s h (field s z 6) (suc z) a (z ∷ l) x.2 (refl, refl, rw (x.1, ← x.0) y)

-- a list taken apart at channel k
pub record Parted (s : List ℕ) (h k : ℕ) (l : List ℕ) : Type 0 where
  pub front : List ℕ
  pub back : List ℕ
  pub all : l ≡ before front (k ∷ back)
  pub to_left : Left s h (field s k 6) (suc k) front
  pub to_right : Linked s (suc k) (field s k 5) back

part_at : (s : List ℕ) (h k p e : ℕ) (a l : List ℕ) → Left s h p e a → Linked s p e l → 1 ≤ count k l → Parted s h k (before a l)
part_at s h k p e a [] x y c = absurd (omega arith)
part_at s h k p e a (j ∷ l) x y c = elim (ℕ_discrete j k) [
  | yes q ↦ record {
    front = a;
    back = l;
    all = rw q;
    to_left = rw (← q, y.1, ← y.0) x;
    to_right = rw (← q) y.2;
  }
  | no q ↦ part_at s h k (suc j) (field s j 5) (j ∷ a) l (refl, refl, rw (y.1, ← y.0) x) y.2 (omega (arith, count_other j k l q))
]

pub parted : (s : List ℕ) (h k : ℕ) (l : List ℕ) → Linked s 0 h l → 1 ≤ count k l → Parted s h k l
parted s h k l y c = part_at s h k 0 h [] l (refl, refl) y c

-- what leads to a list's channel, or away from it, is in the list
pub left_in : (s : List ℕ) (h p e : ℕ) (a : List ℕ) (m : ℕ) → Left s h p e a → p ≡ suc m → 1 ≤ count m a
left_in s h p e [] m x q = absurd (omega (arith, x.0))
left_in s h p e (z ∷ a) m x q = let w : z ≡ m = omega (arith, x.0) in omega (arith, ap one (eq-eqb z m w))

pub right_in : (s : List ℕ) (p e : ℕ) (l : List ℕ) (m : ℕ) → Linked s p e l → e ≡ suc m → 1 ≤ count m l
right_in s p e [] m y q = absurd (omega arith)
right_in s p e (z ∷ l) m y q = let w : z ≡ m = omega (arith, y.0) in omega (arith, ap one (eq-eqb z m w))

-- ---- links of other channels do not matter to a list

abbrev SameLinks : List ℕ → List ℕ → List ℕ → Type 0
SameLinks s s' l = (k : ℕ) → 1 ≤ count k l → (field s' k 5 ≡ field s k 5) × (field s' k 6 ≡ field s k 6)

pub same_right : (s s' : List ℕ) (p e : ℕ) (l : List ℕ) → SameLinks s s' l → Linked s p e l → Linked s' p e l
same_right s s' p e [] f y = y
same_right s s' p e (k ∷ l) f y =
    let g = f k (omega (arith, count_same k l)) in
    (y.0, g.1 ∙ y.1, rw g.0 (same_right s s' (suc k) (field s k 5) l (λ j c. f j (omega arith)) y.2))

pub same_left : (s s' : List ℕ) (h p e : ℕ) (a : List ℕ) → SameLinks s s' a → Left s h p e a → Left s' h p e a
same_left s s' h p e [] f x = x
same_left s s' h p e (k ∷ a) f x =
    let g = f k (omega (arith, count_same k a)) in
    (x.0, g.0 ∙ x.1, rw g.1 (same_left s s' h (field s k 6) (suc k) a (λ j c. f j (omega arith)) x.2))
