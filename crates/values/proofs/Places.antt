-- Places: the place after what a reader finds at a place. It is 0 exactly where that is malformed, and else lies after the place and within the bytes.
-- Assumes nothing.
use mathlib.Core.Path.{◌≡◌, refl, sym, ap, ◌∙◌}
use mathlib.Core.List.{List, [], ◌∷◌}
use Prim.Native.Nat.{ℕ, zero, suc, ◌+◌, ◌-◌, ◌<◌, ◌≤◌}
use native.Mathlib.Omega.{arith}
use lib.ListN.{length, drop, length-drop}
use lib.Seq.{drop-nil}
use Rattle.octets.specs.Verdict.{Verdict, refuse, accept}
use Rattle.values.specs.Value.{run, value_end}
use Rattle.values.specs.Answers.{place_after}
use Rattle.values.proofs.Cases.{run_none}
use Rattle.values.proofs.Laws.{run_within, run_some, run_six}

pub place_of : (at n : ℕ) (v : Verdict ℕ) → v ≡ accept n → at + n ≡ place_after at v
place_of at n v e = rw e

pub place_none : (at k : ℕ) (v : Verdict ℕ) → v ≡ refuse k → 0 ≡ place_after at v
place_none at k v e = rw e

pub drop_past : {A : Type 0} (l : List A) (n : ℕ) → length l ≤ n → drop n l ≡ []
drop_past [] n h = drop-nil n
drop_past (x ∷ l) zero h = absurd (omega arith)
drop_past (x ∷ l) (suc n) h = drop_past l n (omega arith)

-- ---- runs

module _ (d count at : ℕ) (s : List ℕ) (e : ℕ) (p : e ≡ place_after at (run d count (drop at s))) where
  pub run_off : e ≡ 0 → run d count (drop at s) ≡ refuse 6
  run_off z = go (run d count (drop at s)) refl (sym p ∙ z)
    where
      go : (v : Verdict ℕ) → run d count (drop at s) ≡ v → place_after at v ≡ 0 → run d count (drop at s) ≡ refuse 6
      go (refuse k) q h = q ∙ ap refuse (run_six d count _ k q)
      go (accept n) q h = let b = run_some d count _ n q in absurd (omega arith)

  run_is : (e ≡ 0 → ⊥) → (n : ℕ) × (run d count (drop at s) ≡ accept n) × (e ≡ at + n)
  run_is z = go (run d count (drop at s)) refl p
    where
      go : (v : Verdict ℕ) → run d count (drop at s) ≡ v → e ≡ place_after at v → (n : ℕ) × (run d count (drop at s) ≡ accept n) × (e ≡ at + n)
      go (refuse k) q h = absurd (z h)
      go (accept n) q h = (n, q, h)

  pub run_on : (e ≡ 0 → ⊥) → run d count (drop at s) ≡ accept (e - at)
  run_on z =
      let w = run_is z in
      let k : w.0 ≡ e - at = omega (arith, w.2) in
      w.1 ∙ ap accept k

  pub run_in : (e ≡ 0 → ⊥) → (at < e) × (e ≤ length s)
  run_in z =
      let w = run_is z in
      let a = run_some d count _ w.0 w.1 in
      let b = run_within d count _ w.0 w.1 in
      (omega (arith, w.2), omega (arith, w.2, length-drop at s))

-- ---- values

module _ (d at : ℕ) (s : List ℕ) (e : ℕ) (p : e ≡ place_after at (value_end d (drop at s))) where
  pub place_off : e ≡ 0 → value_end d (drop at s) ≡ refuse 6
  unfolding value_end
  place_off z = run_off d 1 at s e p z

  pub place_on : (e ≡ 0 → ⊥) → value_end d (drop at s) ≡ accept (e - at)
  unfolding value_end
  place_on z = run_on d 1 at s e p z

  pub place_in : (e ≡ 0 → ⊥) → (at < e) × (e ≤ length s)
  unfolding value_end
  place_in z = run_in d 1 at s e p z

pub place_past : (d at : ℕ) (s : List ℕ) → length s ≤ at → 0 ≡ place_after at (value_end d (drop at s))
unfolding value_end
place_past d at s h = place_none at 6 _ (sym (run_none d 1 (drop at s) (ap length (drop_past s at h))))
