-- The numbers of the hand-out list and the taken ones are together 0 to the limit, each once: what keeps it so.
-- Assumes nothing.
use mathlib.Core.Path.{◌≡◌, refl, sym, ◌∙◌, ap, subst}
use mathlib.Core.Bool.{Bool, true, false, cond}
use mathlib.Core.List.{List, ◌∷◌}
use Rattle.std.specs.Prelude.{Option, None, Some}
use Prim.Native.Nat.{ℕ, zero, suc, ◌+◌, ◌≤◌, ◌<◌}
use native.Mathlib.Omega.{arith}
use native.Mathlib.Decide.{dec_le, ℕ_discrete}
use lib.Dec.{T, leb, eqb, leb→le, eqb→eq}
use borrow.Author.Tests.{le-leb, lt-leb, eq-eqb, ne_eqb}
use Rattle.channels.specs.Numbers.{Map, nowhere, with, up_from, freed_first, one, is_taken, count, EachOnce, Shared}

pub one_small : (b : Bool) → one b ≤ 1
one_small true = omega arith
one_small false = omega arith

-- a number is taken from the list
take_one : (b : Bool) (n x h : ℕ) (o : Option ℕ) → x ≤ 1 → one b + n + is_taken o ≡ x → n + is_taken (cond b (Some h) o) ≡ x
take_one true n x h o le e = omega arith
take_one false n x h o le e = omega arith

pub once_take : (m ch : ℕ) (rest : List ℕ) (h : ℕ) (tk : Map) → EachOnce m (ch ∷ rest) tk → EachOnce m rest (with tk ch (Some h))
once_take m ch rest h tk i k = take_one (eqb ch k) (count k rest) (one (leb k m)) h (tk k) (one_small (leb k m)) (i k)

-- a taken number goes back into the list
give_one : (b : Bool) (n x : ℕ) (o : Option ℕ) → (T b → is_taken o ≡ 1) → n + is_taken o ≡ x → one b + n + is_taken (cond b None o) ≡ x
give_one true n x o t e = omega (arith, t tt)
give_one false n x o t e = omega arith

pub once_give : (m ch : ℕ) (l : List ℕ) (h : ℕ) (tk : Map) → tk ch ≡ Some h → EachOnce m l tk → EachOnce m (ch ∷ l) (with tk ch None)
once_give m ch l h tk e i k = give_one (eqb ch k) (count k l) (one (leb k m)) (tk k) (λ t. ap is_taken (sym (ap tk (eqb→eq ch k t)) ∙ e)) (i k)

leb_of_one : (n : ℕ) (b : Bool) → n + 1 ≡ one b → T b
leb_of_one n true e = tt
leb_of_one n false e = omega arith

pub once_taken : (m : ℕ) (l : List ℕ) (tk : Map) (k h : ℕ) → EachOnce m l tk → tk k ≡ Some h → k ≤ m
once_taken m l tk k h i e = leb→le k m (leb_of_one (count k l) (leb k m) (sym (ap (λ o. count k l + is_taken o) e) ∙ i k))

-- the whole list, with nothing taken
pub below_none : (k n j : ℕ) → k < n → count k (up_from n j) ≡ 0
below_none k n zero l = refl
below_none k n (suc j) l = rw (ne_eqb n k (omega arith)) (omega (arith, below_none k (suc n) j (omega arith)))

above_none : (k n j : ℕ) → n + j ≤ k → count k (up_from n j) ≡ 0
above_none k n zero l = refl
above_none k n (suc j) l = rw (ne_eqb n k (omega arith)) (omega (arith, above_none k (suc n) j (omega arith)))

pub within_once : (k n j : ℕ) → n ≤ k → k < n + j → count k (up_from n j) ≡ 1
within_once k n zero l u = let z : ⊥ = omega arith in absurd z
within_once k n (suc j) l u = elim (ℕ_discrete n k) [
  | yes e ↦ rw (eq-eqb n k e) (omega (arith, below_none k (suc n) j (omega arith)))
  | no e ↦ rw (ne_eqb n k e) (omega (arith, within_once k (suc n) j (omega arith) (omega arith)))
]

pub once_fresh : (m : ℕ) → EachOnce m (up_from 0 (suc m)) nowhere
once_fresh m k = elim (dec_le k m) [
  | yes l ↦ rw (le-leb k m l) (omega (arith, within_once k 0 (suc m) (omega arith) (omega arith)))
  | no l ↦ rw (lt-leb k m (omega arith)) (omega (arith, above_none k 0 (suc m) (omega arith)))
]

pub shared_take : (a : Option ℕ) (l : Option (List ℕ)) (tk : Map) (ch : ℕ) (rest : List ℕ) (h : ℕ) → l ≡ Some (ch ∷ rest) → Shared a l tk → Shared a (Some rest) (with tk ch (Some h))
shared_take a l tk ch rest h e i = go a (subst (λ o. Shared a o tk) e i)
  where
    go : (b : Option ℕ) → Shared b (Some (ch ∷ rest)) tk → Shared b (Some rest) (with tk ch (Some h))
    go None j = absurd j
    go (Some m) j = once_take m ch rest h tk j

pub shared_give : (a : Option ℕ) (l : Option (List ℕ)) (tk : Map) (ch h : ℕ) → tk ch ≡ Some h → Shared a l tk → Shared a (freed_first ch l) (with tk ch None)
shared_give None None tk ch h e i = let f : tk ch ≡ None = ap (λ f. f ch) i in let z : ◌≡◌ {A = ℕ} 0 1 = cc in absurd (omega arith)
shared_give None (Some l) tk ch h e i = absurd i
shared_give (Some m) None tk ch h e i = absurd i
shared_give (Some m) (Some l) tk ch h e i = once_give m ch l h tk e i
