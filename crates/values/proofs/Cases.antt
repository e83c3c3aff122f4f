-- What each case of the definitions comes to.
-- Assumes nothing.
use mathlib.Core.Path.{◌≡◌, refl, sym, ap, ◌∙◌}
use mathlib.Core.Bool.{Bool, true, false}
use mathlib.Core.List.{List, [], ◌∷◌}
use Prim.Native.Nat.{ℕ, zero, suc, ◌+◌, ◌*◌, ◌-◌, ◌<◌, ◌≤◌}
use native.Mathlib.Nat.{suc-mul, zero-mul}
use native.Mathlib.Numerals.{sub-one}
use native.Mathlib.Omega.{arith}
use lib.ListN.{length, take, drop, get_or, length-drop}
use lib.Seq.{take_all}
use lib.Dec.{leb, eqb}
use borrow.Author.Tests.{le-leb, lt-leb, ne_eqb, eqb-true, leb-true, leb-false}
use Rattle.octets.specs.Verdict.{Verdict, refuse, accept, and_then}
use Rattle.octets.proofs.Laws.{require_on, require_off}
use Rattle.values.specs.Value.{Kind, plus, followed_by, times, bytes, boolean_end, after_code, level, no_values, run, codes, kind_in, kind_of, body}
use Rattle.values.specs.Widths.{fixed_width}
use Rattle.values.proofs.Widths.{boolean_width}

-- a part to the end
pub tail : (s : List ℕ) (a : ℕ) → take (length s - a) (drop a s) ≡ drop a s
tail s a = take_all (length s - a) (drop a s) (simp length-drop (omega arith))

pub bytes_yes : (n : ℕ) (s : List ℕ) → n ≤ length s → accept n ≡ bytes n s
unfolding bytes
bytes_yes n s h = sym (require_on _ _ _ (le-leb _ _ h))

pub bytes_no : (n : ℕ) (s : List ℕ) → length s < n → refuse 6 ≡ bytes n s
unfolding bytes
bytes_no n s h = sym (require_off _ _ _ (lt-leb _ _ h))

-- a boolean, with the width of its code
pub boolean_none : (s : List ℕ) (w : ℕ) → w ≡ fixed_width 0x56 → length s < w → refuse 6 ≡ boolean_end s
unfolding boolean_end
boolean_none [] w e h = refl
boolean_none (b ∷ s) w e h = absurd (omega (arith, boolean_width))

pub boolean_yes : (s : List ℕ) (w : ℕ) → w ≡ fixed_width 0x56 → w ≤ length s → get_or s 0 0 ≤ 1 → accept w ≡ boolean_end s
unfolding boolean_end
boolean_yes [] w e n h = absurd (omega (arith, boolean_width))
boolean_yes (b ∷ s) w e n h = rw (e, boolean_width) (sym (require_on _ _ _ (le-leb _ _ h)))

pub boolean_no : (s : List ℕ) (w : ℕ) → w ≡ fixed_width 0x56 → w ≤ length s → 1 < get_or s 0 0 → refuse 6 ≡ boolean_end s
unfolding boolean_end
boolean_no [] w e n h = absurd (omega (arith, boolean_width))
boolean_no (b ∷ s) w e n h = sym (require_off _ _ _ (lt-leb _ _ h))

-- ---- so many times so many bytes, with no loop

bytes_past : (w m : ℕ) (s : List ℕ) (b : Bool) → leb w (length s) ≡ b → and_then (bytes w s) (λ n. plus n (bytes m (drop n s))) ≡ bytes (m + w) s
unfolding and_then plus
bytes_past w m s true e =
    let l : w ≤ length s = leb-true _ _ e in
    rw (← bytes_yes w s l) (go (leb m (length (drop w s))) refl)
  where
    go : (b : Bool) → leb m (length (drop w s)) ≡ b → plus w (bytes m (drop w s)) ≡ bytes (m + w) s
    go true q =
        let k : m ≤ length (drop w s) = leb-true _ _ q in
        let l : w ≤ length s = leb-true _ _ e in
        rw (← bytes_yes m (drop w s) k, ← bytes_yes (m + w) s (omega (arith, length-drop w s))) (ap accept (omega arith))
    go false q =
        let k : length (drop w s) < m = leb-false _ _ q in
        rw (← bytes_no m (drop w s) k, ← bytes_no (m + w) s (omega (arith, length-drop w s)))
bytes_past w m s false e =
    let l : length s < w = leb-false _ _ e in
    rw (← bytes_no w s l, ← bytes_no (m + w) s (omega arith))

pub times_bytes : (w k : ℕ) (s : List ℕ) → times k (bytes w) s ≡ bytes (k * w) s
unfolding times followed_by
times_bytes w zero s = rw (zero-mul w) (bytes_yes 0 s (omega arith))
times_bytes w (suc k) s = simp (times_bytes w k) (rw (suc-mul k w) (bytes_past w (k * w) s (leb w (length s)) refl))

-- ---- a constructor with its bodies

pub run_none : (d count : ℕ) (s : List ℕ) → length s ≡ 0 → refuse 6 ≡ run d count s
unfolding run level
run_none zero zero [] e = refl
run_none zero zero (c ∷ s) e = absurd (omega arith)
run_none zero (suc k) s e = refl
run_none (suc d) count [] e = refl
run_none (suc d) count (c ∷ s) e = absurd (omega arith)

run_step : (d count : ℕ) (s : List ℕ) → (d ≡ 0 → ⊥) → (length s ≡ 0 → ⊥) → run d count s ≡ plus 1 (after_code (run (d - 1)) count (eqb (get_or s 0 0) 0) (get_or s 0 0) (drop 1 s))
unfolding run level
run_step zero count s hd hs = absurd (hd refl)
run_step (suc d) count [] hd hs = absurd (hs refl)
run_step (suc d) count (c ∷ s) hd hs = rw (sub-one (suc d))

module _ (d count : ℕ) (s : List ℕ) (hd : d ≡ 0 → ⊥) (hs : length s ≡ 0 → ⊥) where
  run_plain : (get_or s 0 0 ≡ 0 → ⊥) → run d count s ≡ plus 1 (and_then (kind_of (get_or s 0 0)) (λ k. times count (body (run (d - 1)) k) (drop 1 s)))
  unfolding after_code
  run_plain e = run_step d count s hd hs ∙ rw (ne_eqb _ _ e)

-- ---- where no level is left

pub run_bodies : (count : ℕ) (s : List ℕ) → (count ≡ 0 → ⊥) → refuse 6 ≡ run 0 count s
unfolding run
run_bodies zero s h = absurd (h refl)
run_bodies (suc k) s h = refl

run_alone : (s : List ℕ) → (length s ≡ 0 → ⊥) → run 0 0 s ≡ and_then (kind_of (get_or s 0 0)) (λ k. accept 1)
unfolding run level after_code followed_by times plus and_then kind_of kind_in codes
run_alone [] hs = absurd (hs refl)
run_alone (c ∷ s) hs = go (eqb c 0) refl
  where
    one : (v : Verdict Kind) → plus 1 (and_then v (λ k. times 0 (body no_values k) s)) ≡ and_then v (λ k. accept 1)
    one (accept k) = refl
    one (refuse j) = refl

    go : (b : Bool) → eqb c 0 ≡ b → plus 1 (after_code no_values 0 b c s) ≡ and_then (kind_of c) (λ k. accept 1)
    go true q = rw (eqb-true c 0 q)
    go false q = one (kind_of c)

-- no bodies, on any level
pub run_none_of : (d : ℕ) (s : List ℕ) → (length s ≡ 0 → ⊥) → (k : Kind) → kind_of (get_or s 0 0) ≡ accept k → run d 0 s ≡ accept 1
unfolding and_then plus times kind_of kind_in codes
run_none_of zero s hs k e = run_alone s hs ∙ rw e
run_none_of (suc d) s hs k e = run_plain (suc d) 0 s (λ q. omega arith) hs (λ q. not_zero (rw q at e)) ∙ rw e
  where
    not_zero : kind_of 0 ≡ accept k → ⊥
    not_zero h = let z : ◌≡◌ {A = ℕ} 0 1 = cc in omega arith

-- what describes would stand deeper yet
pub run_undescribed : (count : ℕ) (s : List ℕ) → (length s ≡ 0 → ⊥) → get_or s 0 0 ≡ 0 → refuse 6 ≡ run 0 count s
unfolding run kind_of kind_in codes and_then
run_undescribed zero s hs e = sym (run_alone s hs ∙ rw e)
run_undescribed (suc k) s hs e = refl

-- an unknown code is refused at every level
pub run_unknown : (d count : ℕ) (s : List ℕ) → (length s ≡ 0 → ⊥) → (get_or s 0 0 ≡ 0 → ⊥) → kind_of (get_or s 0 0) ≡ refuse 6 → refuse 6 ≡ run d count s
unfolding run and_then plus
run_unknown zero zero s hs z e = sym (run_alone s hs ∙ rw e)
run_unknown zero (suc k) s hs z e = refl
run_unknown (suc d) count s hs z e = sym (run_plain (suc d) count s (λ q. omega arith) hs z ∙ rw e)
