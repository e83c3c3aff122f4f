-- Fields of which the trailing nulls are dropped say what they said: a missing field is null.
-- Assumes nothing.
use mathlib.Core.Path.{◌≡◌, refl, sym, ap, ◌∙◌}
use mathlib.Core.Bool.{Bool, true, false, ◌&&◌, ◌||◌, false≢true}
use mathlib.Core.List.{List, [], ◌∷◌, ◌++◌}
use Prim.Native.Nat.{ℕ, zero, suc, ◌<◌, ◌≤◌}
use native.Mathlib.Omega.{arith}
use lib.ListN.{length, get_or, length-append}
use lib.Dec.{eqb}
use borrow.Author.Tests.{eqb-true}
use Rattle.octets.specs.Octets.{starts_with}
use Rattle.values.specs.Value.{codes, kind_in, kind_of, run, value_end}
use Rattle.values.specs.Null.{null, is_null}
use Rattle.values.proofs.Apart.{never}
use Rattle.values.proofs.Laws.{value_fixed}
use Rattle.values.proofs.Written.{Whole, Each}
use Rattle.serializer.specs.Written.{before, trimmed, joined}
use Rattle.performatives.specs.Fields.{Field}
use Rattle.performatives.specs.Performative.{fits, fit}

pub trimmed_few : (fs : List (List ℕ)) → length (trimmed fs) ≤ length fs
unfolding trimmed
trimmed_few [] = omega arith
trimmed_few (f ∷ fs) = go (is_null f) (trimmed fs) (trimmed_few fs)
  where
    go : (b : Bool) (gs : List (List ℕ)) → length gs ≤ length fs → length (before b f gs) ≤ suc (length fs)
    go true [] h = omega arith
    go false [] h = omega arith
    go true (g ∷ gs) h = omega arith
    go false (g ∷ gs) h = omega arith

pub trimmed_short : (fs : List (List ℕ)) → length (joined (trimmed fs)) ≤ length (joined fs)
unfolding trimmed joined
trimmed_short [] = omega arith
trimmed_short (f ∷ fs) = go (is_null f) (trimmed fs) (trimmed_short fs)
  where
    go : (b : Bool) (gs : List (List ℕ)) → length (joined gs) ≤ length (joined fs) → length (joined (before b f gs)) ≤ length (f ++ joined fs)
    go true [] h = omega arith
    go false [] h = omega (arith, length-append f (joined fs), length-append f [])
    go true (g ∷ gs) h = omega (arith, length-append f (joined fs), length-append f (g ++ joined gs))
    go false (g ∷ gs) h = omega (arith, length-append f (joined fs), length-append f (g ++ joined gs))

-- what is not null is kept
pub trimmed_bound : (n : ℕ) (fs : List (List ℕ)) → length (joined (trimmed fs)) < n → Each (λ f. is_null f ≡ false → length f < n) fs
unfolding trimmed joined
trimmed_bound n [] h = tt
trimmed_bound n (f ∷ fs) h =
    let a = go (is_null f) refl (trimmed fs) h in
    (a.0, trimmed_bound n fs a.1)
  where
    go : (b : Bool) → is_null f ≡ b → (gs : List (List ℕ)) → length (joined (before b f gs)) < n → (is_null f ≡ false → length f < n) × (length (joined gs) < n)
    go true p [] k = (λ q. absurd (false≢true (sym q ∙ p)), k)
    go false p [] k = (λ _. omega (arith, length-append f []), omega arith)
    go true p (g ∷ gs) k = (λ q. absurd (false≢true (sym q ∙ p)), omega (arith, length-append f (g ++ joined gs)))
    go false p (g ∷ gs) k = (λ _. omega (arith, length-append f (g ++ joined gs)), omega (arith, length-append f (g ++ joined gs)))

pub trimmed_present : (f : List ℕ) (fs : List (List ℕ)) → is_null f ≡ false → trimmed (f ∷ fs) ≡ f ∷ trimmed fs
unfolding trimmed
trimmed_present f fs e = rw e (go (trimmed fs))
  where
    go : (gs : List (List ℕ)) → before false f gs ≡ f ∷ gs
    go [] = refl
    go (g ∷ gs) = refl

pub trimmed_each : (P : List ℕ → Type 0) (fs : List (List ℕ)) → Each P fs → Each P (trimmed fs)
unfolding trimmed
trimmed_each P [] h = h
trimmed_each P (f ∷ fs) h = go (is_null f) (trimmed fs) (trimmed_each P fs h.1)
  where
    go : (b : Bool) (gs : List (List ℕ)) → Each P gs → Each P (before b f gs)
    go true [] k = k
    go false [] k = (h.0, k)
    go true (g ∷ gs) k = (h.0, k)
    go false (g ∷ gs) k = (h.0, k)

pub trimmed_again : (fs : List (List ℕ)) → trimmed (trimmed fs) ≡ trimmed fs
unfolding trimmed
trimmed_again [] = refl
trimmed_again (f ∷ fs) = go (is_null f) refl (trimmed fs) (trimmed_again fs)
  where
    go : (b : Bool) → is_null f ≡ b → (gs : List (List ℕ)) → trimmed gs ≡ gs → trimmed (before b f gs) ≡ before b f gs
    go true p [] e = refl
    go false p [] e = rw p
    go true p (g ∷ gs) e = rw (p, e)
    go false p (g ∷ gs) e = rw (p, e)

pub and_was : (a b : Bool) → (a && b) ≡ true → (a ≡ true) × (b ≡ true)
and_was true b e = (refl, e)
and_was false b e = absurd (false≢true e)

pub missing : (r : Field) (f : List ℕ) → is_null f ≡ true → fits r.type r.mandatory f ≡ true → fits r.type r.mandatory null ≡ true
unfolding fits starts_with
missing r f p q = rw p at q

pub trimmed_fit : (rows : List Field) (fs : List (List ℕ)) → fit rows fs ≡ true → fit rows (trimmed fs) ≡ true
unfolding trimmed fit
trimmed_fit rows [] e = e
trimmed_fit [] (f ∷ fs) e = absurd (false≢true e)
trimmed_fit (r ∷ rows) (f ∷ fs) e =
    let h = and_was _ _ e in
    go (is_null f) refl (trimmed fs) h.0 (trimmed_fit rows fs h.1)
  where
    go : (b : Bool) → is_null f ≡ b → (gs : List (List ℕ)) → fits r.type r.mandatory f ≡ true → fit rows gs ≡ true → fit (r ∷ rows) (before b f gs) ≡ true
    go true p [] q k = rw (missing r f p q) k
    go false p [] q k = rw q k
    go true p (g ∷ gs) q k = rw q k
    go false p (g ∷ gs) q k = rw q k

pub or_was : (a : Bool) → (a || false) ≡ true → a ≡ true
or_was true e = refl
or_was false e = e

pub none_is : {A : Type 0} (l : List A) → length l ≡ 0 → l ≡ []
none_is [] e = refl
none_is (a ∷ l) e = absurd (omega arith)

-- a whole value that starts like null is null
pub null_is : (d : ℕ) (f : List ℕ) → Whole d f → is_null f ≡ true → f ≡ null
unfolding starts_with value_end run kind_of kind_in codes
null_is d [] w e = absurd (false≢true e)
null_is zero (c ∷ s) w e = absurd (never 6 (suc (length s)) (w []))
null_is (suc d) (c ∷ s) w e =
    let q : c ≡ 0x40 = eqb-true _ _ (or_was (eqb c 0x40) e) in
    let n = value_fixed d c 0 (s ++ []) (suc (length s)) (rw q refl) (w []) in
    ap (λ (b : ℕ). b ∷ s) q ∙ ap (λ (r : List ℕ). 0x40 ∷ r) (none_is s (omega (arith, n.0)))

pub trimmed_field : (d : ℕ) (fs : List (List ℕ)) (i : ℕ) → Each (Whole d) fs → get_or (trimmed fs) i null ≡ get_or fs i null
unfolding trimmed
trimmed_field d [] i h = refl
trimmed_field d (f ∷ fs) i h = go (is_null f) refl (trimmed fs) i (λ j. trimmed_field d fs j h.1)
  where
    go : (b : Bool) → is_null f ≡ b → (gs : List (List ℕ)) (i : ℕ) → ((j : ℕ) → get_or gs j null ≡ get_or fs j null) → get_or (before b f gs) i null ≡ get_or (f ∷ fs) i null
    go true p [] zero k = sym (null_is d f h.0 p)
    go true p [] (suc i) k = k i
    go false p [] zero k = refl
    go false p [] (suc i) k = k i
    go true p (g ∷ gs) zero k = refl
    go true p (g ∷ gs) (suc i) k = k i
    go false p (g ∷ gs) zero k = refl
    go false p (g ∷ gs) (suc i) k = k i
