-- A loop over what stands one after the other: what is left to read after i of `count` turns, from the place `end` on. X is what the loop has to answer.
-- Assumes nothing.
use mathlib.Core.Path.{◌≡◌, refl, sym, ◌∙◌}
use mathlib.Core.List.{List}
use Prim.Native.Nat.{ℕ, suc, ◌+◌, ◌-◌, ◌<◌, ◌≤◌}
use native.Mathlib.Nat.{add-zero, sub-zero}
use native.Mathlib.Omega.{arith}
use lib.ListN.{drop}
use lib.Seq.{drop-drop}
use Rattle.octets.specs.Verdict.{Verdict, refuse, accept, and_then}
use Rattle.values.specs.Value.{Reader, plus, followed_by, times}
use Rattle.values.specs.Answers.{place_after}

pub place_plus : (at n : ℕ) (v : Verdict ℕ) → place_after at (plus n v) ≡ place_after (at + n) v
unfolding plus and_then
place_plus at n (accept m) = omega arith
place_plus at n (refuse k) = refl

abbrev pub left : Reader → List ℕ → ℕ → ℕ → ℕ → ℕ
left f s count i end = place_after end (times (count - i) f (drop end s))

pub turn_first : (f : Reader) (s : List ℕ) (count at : ℕ) → place_after at (times count f (drop at s)) ≡ left f s count 0 at
turn_first f s count at = rw (sub-zero count)

module _ (X : ℕ) (f : Reader) (s : List ℕ) (count i end : ℕ) (inv : X ≡ left f s count i end) where
  pub turn_last : count ≤ i → end ≡ X
  unfolding times
  turn_last h =
      let q : count - i ≡ 0 = omega arith in
      sym (inv ∙ rw q (add-zero end))

  module _ (next : ℕ) (h : i < count) (e : next ≡ place_after end (f (drop end s))) where
    more : count - i ≡ suc (count - (i + 1))
    more = omega arith

    stepped : X ≡ place_after end (followed_by f (times (count - (i + 1)) f) (drop end s))
    unfolding times
    stepped = inv ∙ rw more

    pub turn_stop : 0 < end → next ≡ 0 → 0 ≡ X
    unfolding followed_by and_then
    turn_stop p z = sym (stepped ∙ go (f (drop end s)) refl (sym e ∙ z))
      where
        go : (v : Verdict ℕ) → f (drop end s) ≡ v → place_after end v ≡ 0 → place_after end (followed_by f (times (count - (i + 1)) f) (drop end s)) ≡ 0
        go (accept n) q g = absurd (omega arith)
        go (refuse k) q g = rw q

    pub turn_more : (next ≡ 0 → ⊥) → X ≡ left f s count (i + 1) next
    unfolding followed_by and_then
    turn_more z = stepped ∙ go (f (drop end s)) refl e
      where
        go : (v : Verdict ℕ) → f (drop end s) ≡ v → next ≡ place_after end v → place_after end (followed_by f (times (count - (i + 1)) f) (drop end s)) ≡ left f s count (i + 1) next
        go (accept n) q g = rw (q, place_plus, drop-drop, g)
        go (refuse k) q g = absurd (z g)
