-- Fields without their trailing nulls: how many are left, how many bytes they take, and that they are the first ones.
-- Assumes nothing.
use mathlib.Core.Path.{◌≡◌, refl, ap}
use mathlib.Core.Bool.{Bool, true, false}
use mathlib.Core.List.{List, [], ◌∷◌, append-nil}
use Prim.Native.Nat.{ℕ, suc, ◌+◌, ◌≤◌}
use native.Mathlib.Omega.{arith}
use lib.ListN.{length, take, length-append}
use borrow.Author.Tests.{ne_eqb}
use Rattle.values.specs.Null.{is_null}
use Rattle.serializer.specs.Written.{joined, before, trimmed}
use Rattle.session_frame.specs.declared.field.Kept.{Kept}
use Rattle.session_frame.specs.Parts.{size_of, kept_of, kept_before}

pub kept_pair : (a b c d : ℕ) → a ≡ b → c ≡ d → ◌≡◌ {A = Kept} (record { count = a; len = c }) (record { count = b; len = d })
kept_pair a b c d p q = rw (p, q)

kept_one : (f : List ℕ) → ◌≡◌ {A = Kept} (record { count = 0 + 1; len = 0 + length f }) (kept_of (f ∷ []))
unfolding kept_of joined
kept_one f = kept_pair _ _ _ _ (omega arith) (omega (arith, ap length (append-nil f)))

kept_more : (f : List ℕ) (gs : List (List ℕ)) → ◌≡◌ {A = Kept} (record { count = length gs + 1; len = length (joined gs) + length f }) (kept_of (f ∷ gs))
unfolding kept_of joined
kept_more f gs = kept_pair _ _ _ _ (omega arith) (omega (arith, length-append f (joined gs)))

before_is : (b : Bool) (f : List ℕ) (gs : List (List ℕ)) → kept_before (record { len = length f; null = b }) (kept_of gs) ≡ kept_of (before b f gs)
unfolding kept_before kept_of joined
before_is true f [] = refl
before_is false f [] = kept_one f
before_is true f (g ∷ gs) = rw (ne_eqb (suc (length gs)) 0 (λ e. omega arith)) (kept_more f (g ∷ gs))
before_is false f (g ∷ gs) = kept_more f (g ∷ gs)

-- a field and what is kept of those after it
pub kept_before_lem : (f : List ℕ) (fs : List (List ℕ)) → kept_before (size_of f) (kept_of (trimmed fs)) ≡ kept_of (trimmed (f ∷ fs))
unfolding size_of trimmed
kept_before_lem f fs = before_is (is_null f) f (trimmed fs)

pub kept_none : record { count = 0; len = 0 } ≡ kept_of (trimmed [])
unfolding kept_of trimmed joined
kept_none = refl

take_before : (b : Bool) (f : List ℕ) (fs gs : List (List ℕ)) → gs ≡ take (length gs) fs → before b f gs ≡ take (length (before b f gs)) (f ∷ fs)
take_before true f fs [] h = refl
take_before false f fs [] h = refl
take_before true f fs (g ∷ gs) h = ap (λ (l : List (List ℕ)). f ∷ l) h
take_before false f fs (g ∷ gs) h = ap (λ (l : List (List ℕ)). f ∷ l) h

-- what is left are the first ones
pub trimmed_first : (fs : List (List ℕ)) → trimmed fs ≡ take (length (trimmed fs)) fs
unfolding trimmed
trimmed_first [] = refl
trimmed_first (f ∷ fs) = take_before (is_null f) f fs (trimmed fs) (trimmed_first fs)

few_before : (b : Bool) (f : List ℕ) (gs : List (List ℕ)) → length (before b f gs) ≤ 1 + length gs
few_before true f [] = omega arith
few_before false f [] = omega arith
few_before true f (g ∷ gs) = omega arith
few_before false f (g ∷ gs) = omega arith

pub trimmed_few : (fs : List (List ℕ)) → length (trimmed fs) ≤ length fs
unfolding trimmed
trimmed_few [] = omega arith
trimmed_few (f ∷ fs) = omega (arith, few_before (is_null f) f (trimmed fs), trimmed_few fs)

short_before : (b : Bool) (f : List ℕ) (gs : List (List ℕ)) → length (joined (before b f gs)) ≤ length f + length (joined gs)
unfolding joined
short_before true f [] = omega arith
short_before false f [] = omega (arith, ap length (append-nil f))
short_before true f (g ∷ gs) = omega (arith, length-append f (joined (g ∷ gs)))
short_before false f (g ∷ gs) = omega (arith, length-append f (joined (g ∷ gs)))

pub trimmed_short : (fs : List (List ℕ)) → length (joined (trimmed fs)) ≤ length (joined fs)
unfolding trimmed joined
trimmed_short [] = omega arith
trimmed_short (f ∷ fs) = omega (arith, short_before (is_null f) f (trimmed fs), trimmed_short fs, length-append f (joined fs))
