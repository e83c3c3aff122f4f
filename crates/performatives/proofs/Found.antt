-- The values of a list, found one after the other: what each step of `next`, `skip` and `item` shows.
-- Assumes nothing.
use mathlib.Core.Path.{◌≡◌, refl, sym, ap, ◌∙◌}
use mathlib.Core.Bool.{Bool, true}
use mathlib.Core.List.{List, [], ◌∷◌}
use Prim.Native.Nat.{ℕ, zero, suc, ◌+◌, ◌-◌, ◌≤◌}
use native.Mathlib.Numerals.{add-one}
use native.Mathlib.Omega.{arith}
use lib.ListN.{length, take, drop, length-drop}
use lib.Seq.{drop-drop, drop-length, take-nil, length-take-le}
use Rattle.octets.specs.Verdict.{Verdict, refuse, accept}
use Rattle.octets.specs.Octets.{starts_with}
use Rattle.values.specs.Value.{value_end}
use Rattle.values.specs.Null.{null, is_null, or_null}
use Rattle.values.specs.Answers.{place_after}
use Rattle.values.proofs.Laws.{value_within}
use Rattle.values.proofs.Places.{place_off, place_on, place_in}
use Rattle.performatives.specs.Inner.{after_or, next, skip, item}

-- ---- next

module _ (s : List ℕ) (at end : ℕ) (p : end ≡ place_after at (value_end 16 (drop at s))) where
  pub next_none : end ≡ 0 → at ≡ next s at
  unfolding next
  next_none z = rw (place_off 16 at s end p z)

  pub next_is : (end ≡ 0 → ⊥) → end ≡ next s at
  unfolding next
  next_is z = rw (place_on 16 at s end p z) (omega (arith, (place_in 16 at s end p z).0))

next_after : (s : List ℕ) (at : ℕ) → at ≤ next s at
unfolding next
next_after s at = go (value_end 16 (drop at s))
  where
    go : (v : Verdict ℕ) → at ≤ after_or at v
    go (refuse k) = omega arith
    go (accept n) = omega arith

next_within : (s : List ℕ) (at : ℕ) → at ≤ length s → next s at ≤ length s
unfolding next
next_within s at h = go (value_end 16 (drop at s)) refl
  where
    go : (v : Verdict ℕ) → value_end 16 (drop at s) ≡ v → after_or at v ≤ length s
    go (refuse k) e = h
    go (accept n) e = omega (arith, value_within 16 (drop at s) n e, length-drop at s)

-- ---- skip

pub skip_within : (i : ℕ) (s : List ℕ) → skip i s ≤ length s
unfolding skip
skip_within zero s = omega arith
skip_within (suc i) s = next_within s (skip i s) (skip_within i s)

pub skip_none : (s : List ℕ) → 0 ≡ skip 0 s
unfolding skip
skip_none s = refl

pub skip_next : (s : List ℕ) (i at end : ℕ) → at ≡ skip i s → end ≡ next s at → end ≡ skip (i + 1) s
unfolding skip
skip_next s i at end p q = q ∙ rw (p, add-one)

-- the value before the next begins where this one did
pub skip_same : (s : List ℕ) (i at : ℕ) → at ≡ skip i s → at ≡ skip ((i + 1) - 1) s
skip_same s i at p = let e : (i + 1) - 1 ≡ i = omega arith in p ∙ rw e

-- a later value begins no earlier
skip_later : (i j k : ℕ) (s : List ℕ) → k ≡ i + j → skip i s ≤ skip k s
unfolding skip
skip_later i zero k s e = let q : k ≡ i = omega arith in rw q (omega arith)
skip_later i (suc j) k s e =
    let q : k ≡ suc (i + j) = omega arith in
    rw q (omega (arith, skip_later i j (i + j) s refl, next_after s (skip (i + j) s)))

-- by the values that stand after the first
next_front : (s : List ℕ) (n at : ℕ) → next s (n + at) ≡ n + next (drop n s) at
unfolding next
next_front s n at = rw (drop-drop at n s) (go (value_end 16 (drop (n + at) s)))
  where
    go : (v : Verdict ℕ) → after_or (n + at) v ≡ n + after_or at v
    go (refuse k) = refl
    go (accept m) = omega arith

pub skip_front : (i : ℕ) (s : List ℕ) (n : ℕ) → value_end 16 s ≡ accept n → skip (suc i) s ≡ n + skip i (drop n s)
unfolding skip next
skip_front zero s n e = rw e (omega arith)
skip_front (suc i) s n e = ap (next s) (skip_front i s n e) ∙ next_front s n (skip i (drop n s))

-- ---- item

module _ (i : ℕ) (s : List ℕ) (at : ℕ) (p : at ≡ skip i s) where
  item_from : at ≤ length s
  item_from = omega (arith, skip_within i s)

  module _ (end : ℕ) (q : end ≡ next s at) where
    pub item_ordered : at ≤ end
    item_ordered = omega (arith, next_after s at)

    pub item_within : end ≤ length s
    item_within = omega (arith, next_within s at item_from)

    pub item_length : end - at ≡ length (take (end - at) (drop at s))
    item_length = sym (length-take-le (end - at) (drop at s) (omega (arith, item_within, length-drop at s)))

    pub item_is : take (end - at) (drop at s) ≡ item i s
    unfolding item
    item_is = rw (q, p)

-- there is none after the last
pub item_past : (i k : ℕ) (s : List ℕ) → skip k s ≡ length s → k ≤ i → [] ≡ item i s
unfolding item
item_past i k s e h =
    let a : skip i s ≡ length s = omega (arith, skip_within i s, skip_later k (i - k) i s (omega arith)) in
    rw (a, drop-length s, take-nil)

pub item_front : (i : ℕ) (s : List ℕ) (n : ℕ) → value_end 16 s ≡ accept n → item (suc i) s ≡ item i (drop n s)
unfolding item
item_front i s n e =
    let k = skip i (drop n s) in
    let d : (n + next (drop n s) k) - (n + k) ≡ next (drop n s) k - k = omega arith in
    rw (skip_front i s n e, next_front s n k, d, drop-drop k n s)
