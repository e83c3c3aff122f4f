-- Making and ending a tie keeps ties and lists in agreement.
-- Assumes nothing.
use mathlib.Core.Path.{◌≡◌, refl, sym, ◌∙◌, ap, subst}
use mathlib.Core.List.{List, [], ◌∷◌}
use Prim.Native.Nat.{ℕ, suc, ◌+◌, ◌≤◌, ◌<◌}
use native.Mathlib.Numerals.{add-one}
use native.Mathlib.Omega.{arith}
use native.Mathlib.Decide.{dec_le, ℕ_discrete}
use Rattle.channels.specs.Places.{Covers, field}
use Rattle.channels.specs.Numbers.{count}
use Rattle.channels.specs.Lists.{Lists, Linked}
use Rattle.channels.specs.Links.{taken_out, pushed}
use Rattle.channels.proofs.Lists.{count_same, count_other, with_list, with_same, with_other, before, count_before, Left, joined, Parted, parted, left_in, right_in, same_right, same_left}
use Rattle.channels.proofs.Links.{out_mark, out_mark_other, out_first, out_first_other, out_next, out_next_other, out_previous, out_previous_other, push_first, push_first_other, push_other, push_previous, push_previous_other, push_mark, push_next, push_none_before}
use Rattle.channels.proofs.Marks.{Marked, once}

-- ---- a channel is taken out of its list

module _ (n : ℕ) (s : List ℕ) (lists : Lists) (cov : Covers n s) (a : Marked n s lists) (k ch : ℕ) (low : k < n) (mark : field s k 3 ≡ ch + 1) where
  abbrev s' : List ℕ
  s' = taken_out n s k ch

  pub ch_low : ch < n
  ch_low = a.owned ch k low mark

  pub parts : Parted s (field s ch 2) k (lists ch)
  parts = parted s (field s ch 2) k (lists ch) (a.linked ch ch_low) (omega (arith, a.counted ch k low mark))

  abbrev pub rest : List ℕ
  rest = before parts.front parts.back

  abbrev pub fewer : Lists
  fewer = with_list lists ch rest

  counts : (m : ℕ) → count m parts.front + count m (k ∷ parts.back) ≡ count m (lists ch)
  counts m = sym (ap (count m) parts.all ∙ count_before m parts.front (k ∷ parts.back))

  few : (m : ℕ) → count m parts.front + count m (k ∷ parts.back) ≤ 1
  few m = omega (arith, counts m, once n s lists a ch m)

  listed_low : (m : ℕ) → 1 ≤ count m (lists ch) → m < n
  listed_low m h = a.low ch m h

  -- the links of the channels beside k
  previous_in : (m : ℕ) → field s k 6 ≡ suc m → 1 ≤ count m parts.front
  previous_in m e = left_in s (field s ch 2) (field s k 6) (suc k) parts.front m parts.to_left e

  next_in_is : (m : ℕ) → field s k 5 ≡ suc m → 1 ≤ count m parts.back
  next_in_is m e = right_in s (suc k) (field s k 5) parts.back m parts.to_right e

  more : (m : ℕ) → count m parts.back ≤ count m (k ∷ parts.back)
  more m = omega arith

  new_left : (f : List ℕ) → f ≡ parts.front → Left s (field s ch 2) (field s k 6) (suc k) f → Left s' (field s' ch 2) (field s k 6) (field s k 5) f
  new_left [] e x = (x.0, out_first n s k ch cov x.0 ch_low)
  new_left (z ∷ f) e x =
      let one-z : 1 ≤ count z parts.front = omega (arith, ap (count z) e, count_same z f) in (
        x.0,
        out_next n s k ch cov z x.0 (listed_low z (omega (arith, counts z))),
        rw (out_previous_other n s k ch z (λ q. omega (arith, next_in_is z q, few z, more z)))
            (subst (λ (h : ℕ). Left s' h (field s z 6) (suc z) f) (sym (out_first_other n s k ch ch (λ q w. omega (arith, x.0))))
            (same_left s s' (field s ch 2) (field s z 6) (suc z) f (λ m h. (
              out_next_other n s k ch m (λ q. let w : z ≡ m = omega (arith, x.0) in omega (arith, few z, ap (count z) e, count_same z f, ap (λ y. count y f) w)),
              out_previous_other n s k ch m (λ q. omega (arith, next_in_is m q, few m, more m, ap (count m) e)),
            )) x.2)),
      )

  new_right : (b : List ℕ) → b ≡ parts.back → Linked s (suc k) (field s k 5) b → Linked s' (field s k 6) (field s k 5) b
  new_right [] e y = y
  new_right (j ∷ b) e y =
      let one-j : 1 ≤ count j parts.back = omega (arith, ap (count j) e, count_same j b) in (
        y.0,
        out_previous n s k ch cov j y.0 (listed_low j (omega (arith, counts j, more j))),
        rw (out_next_other n s k ch j (λ q. omega (arith, previous_in j q, few j, more j)))
            (same_right s s' (suc j) (field s j 5) b (λ m h. (
              out_next_other n s k ch m (λ q. omega (arith, previous_in m q, few m, more m, ap (count m) e)),
              out_previous_other n s k ch m (λ q. let w : j ≡ m = omega (arith, y.0) in omega (arith, few j, more j, ap (count j) e, count_same j b, ap (λ x. count x b) w)),
            )) y.2),
      )

  own_list : Linked s' 0 (field s' ch 2) rest
  own_list = joined s' (field s' ch 2) (field s k 6) (field s k 5) parts.front parts.back (new_left parts.front refl parts.to_left) (new_right parts.back refl parts.to_right)

  other_list : (d : ℕ) → (ch ≡ d → ⊥) → d < n → Linked s' 0 (field s' d 2) (lists d)
  other_list d differs l =
      rw (out_first_other n s k ch d (λ q w. differs w))
      (same_right s s' 0 (field s d 2) (lists d) (λ m x. (
        out_next_other n s k ch m (λ q. differs (omega (arith, a.mark d m x, a.mark ch m (omega (arith, previous_in m q, counts m))))),
        out_previous_other n s k ch m (λ q. differs (omega (arith, a.mark d m x, a.mark ch m (omega (arith, next_in_is m q, counts m, more m))))),
      )) (a.linked d l))

  -- how often a channel stands in the lists
  count_rest : (m : ℕ) → (k ≡ m → ⊥) → count m rest ≡ count m (lists ch)
  count_rest m differs = omega (arith, count_before m parts.front parts.back, counts m, count_other k m parts.back differs)

  gone : count k rest ≡ 0
  gone = omega (arith, count_before k parts.front parts.back, few k, count_same k parts.back)

  count_fewer : (d m : ℕ) → (k ≡ m → ⊥) → count m (fewer d) ≡ count m (lists d)
  count_fewer d m differs = elim (ℕ_discrete ch d) [
    | yes q ↦ rw (← q) (ap (count m) (with_same lists ch rest) ∙ count_rest m differs)
    | no q ↦ ap (count m) (with_other lists ch rest d q)
  ]

  none_of_k : (d : ℕ) → count k (fewer d) ≡ 0
  none_of_k d = elim (ℕ_discrete ch d) [
    | yes q ↦ rw (← q) (ap (count k) (with_same lists ch rest) ∙ gone)
    | no q ↦
        ap (count k) (with_other lists ch rest d q)
        ∙ elim (dec_le 1 (count k (lists d))) [
          | yes l ↦ absurd (q (omega (arith, a.mark d k l)))
          | no l ↦ omega arith
        ]
  ]

  pub out_agrees : Marked n s' fewer
  out_agrees = record {
    linked = λ d l. elim (ℕ_discrete ch d) [
      | yes q ↦ rw (← q, with_same lists ch rest) own_list
      | no q ↦ rw (with_other lists ch rest d q) (other_list d q l)
    ];
    counted = λ d m l e. elim (ℕ_discrete k m) [
      | yes q ↦ absurd (omega (arith, ap (λ x. field s' x 3) q, out_mark n s k ch cov low))
      | no q ↦ count_fewer d m q ∙ a.counted d m l (sym (out_mark_other n s k ch m q) ∙ e)
    ];
    low = λ d m h. elim (ℕ_discrete k m) [
      | yes q ↦ omega arith
      | no q ↦ a.low d m (omega (arith, count_fewer d m q))
    ];
    mark = λ d m h. elim (ℕ_discrete k m) [
      | yes q ↦ absurd (omega (arith, ap (λ x. count x (fewer d)) q, none_of_k d))
      | no q ↦ out_mark_other n s k ch m q ∙ a.mark d m (omega (arith, count_fewer d m q))
    ];
    owned = λ d m l e. elim (ℕ_discrete k m) [
      | yes q ↦ absurd (omega (arith, ap (λ x. field s' x 3) q, out_mark n s k ch cov low))
      | no q ↦ a.owned d m l (sym (out_mark_other n s k ch m q) ∙ e)
    ];
  }

-- ---- a channel is put before a list

module _ (n : ℕ) (s : List ℕ) (lists : Lists) (cov : Covers n s) (a : Marked n s lists) (k ch h : ℕ) (low : k < n) (untied : field s k 3 ≡ 0) (ch_low : ch < n) where
  abbrev s'' : List ℕ
  s'' = pushed n s k ch h

  abbrev pub longer : Lists
  longer = with_list lists ch (k ∷ lists ch)

  -- k stands in no list
  nowhere_yet : (d : ℕ) → count k (lists d) ≡ 0
  nowhere_yet d = elim (dec_le 1 (count k (lists d))) [
    | yes l ↦ absurd (omega (arith, a.mark d k l))
    | no l ↦ omega arith
  ]

  apart_from : (d m : ℕ) → 1 ≤ count m (lists d) → k ≡ m → ⊥
  apart_from d m x q = omega (arith, nowhere_yet d, ap (λ y. count y (lists d)) q)

  first_in : (m : ℕ) → field s ch 2 ≡ suc m → 1 ≤ count m (lists ch)
  first_in m e = right_in s 0 (field s ch 2) (lists ch) m (a.linked ch ch_low) e

  -- the old list, after k
  after_k : (l : List ℕ) → l ≡ lists ch → Linked s 0 (field s ch 2) l → Linked s'' (k + 1) (field s ch 2) l
  after_k [] e y = y
  after_k (j ∷ l) e y =
      let one-j : 1 ≤ count j (lists ch) = omega (arith, ap (count j) e, count_same j l) in (
        y.0,
        push_previous n s k ch h cov j y.0 (apart_from ch j one-j) (a.low ch j one-j),
        rw (push_other n s k ch h j 5 (omega arith) (omega arith) (apart_from ch j one-j))
            (same_right s s'' (suc j) (field s j 5) l (λ m x.
            let one-m : 1 ≤ count m (lists ch) = omega (arith, ap (count m) e) in (
              push_other n s k ch h m 5 (omega arith) (omega arith) (apart_from ch m one-m),
              push_previous_other n s k ch h m (λ q. let w : j ≡ m = omega (arith, y.0) in omega (arith, once n s lists a ch j, ap (count j) e, count_same j l, ap (λ z. count z l) w)) (apart_from ch m one-m),
            )) y.2),
      )

  pushed_list : Linked s'' 0 (field s'' ch 2) (k ∷ lists ch)
  pushed_list = (
    push_first n s k ch h cov ch_low ∙ add-one k,
    push_none_before n s k ch h cov low,
    rw (push_next n s k ch h cov low, ← add-one k) (after_k (lists ch) refl (a.linked ch ch_low)),
  )

  kept_list : (d : ℕ) → (ch ≡ d → ⊥) → d < n → Linked s'' 0 (field s'' d 2) (lists d)
  kept_list d differs l =
      rw (push_first_other n s k ch h d differs)
      (same_right s s'' 0 (field s d 2) (lists d) (λ m x. (
        push_other n s k ch h m 5 (omega arith) (omega arith) (apart_from d m x),
        push_previous_other n s k ch h m (λ q. differs (omega (arith, a.mark d m x, a.mark ch m (first_in m q)))) (apart_from d m x),
      )) (a.linked d l))

  count_longer : (d m : ℕ) → (k ≡ m → ⊥) → count m (longer d) ≡ count m (lists d)
  count_longer d m differs = elim (ℕ_discrete ch d) [
    | yes q ↦ rw (← q) (ap (count m) (with_same lists ch (k ∷ lists ch)) ∙ count_other k m (lists ch) differs)
    | no q ↦ ap (count m) (with_other lists ch (k ∷ lists ch) d q)
  ]

  count_own : count k (longer ch) ≡ 1
  count_own = ap (count k) (with_same lists ch (k ∷ lists ch)) ∙ omega (arith, count_same k (lists ch), nowhere_yet ch)

  -- k stands in the list of ch alone
  own_mark : (d : ℕ) → 1 ≤ count k (longer d) → ch ≡ d
  own_mark d x = elim (ℕ_discrete ch d) [
    | yes q ↦ q
    | no q ↦ absurd (omega (arith, ap (count k) (with_other lists ch (k ∷ lists ch) d q), nowhere_yet d))
  ]

  pub push_agrees : Marked n s'' longer
  push_agrees = record {
    linked = λ d l. elim (ℕ_discrete ch d) [
      | yes q ↦ rw (← q, with_same lists ch (k ∷ lists ch)) pushed_list
      | no q ↦ rw (with_other lists ch (k ∷ lists ch) d q) (kept_list d q l)
    ];
    counted = λ d m l e. elim (ℕ_discrete k m) [
      | yes q ↦
          let w : ch ≡ d = omega (arith, push_mark n s k ch h cov low, ap (λ x. field s'' x 3) q) in
          rw (← q, ← w) count_own
      | no q ↦ count_longer d m q ∙ a.counted d m l (sym (push_other n s k ch h m 3 (omega arith) (omega arith) q) ∙ e)
    ];
    low = λ d m x. elim (ℕ_discrete k m) [
      | yes q ↦ omega arith
      | no q ↦ a.low d m (omega (arith, count_longer d m q))
    ];
    mark = λ d m x. elim (ℕ_discrete k m) [
      | yes q ↦ let w : ch ≡ d = own_mark d (omega (arith, ap (λ y. count y (longer d)) q)) in rw (← q, ← w) (push_mark n s k ch h cov low)
      | no q ↦ push_other n s k ch h m 3 (omega arith) (omega arith) q ∙ a.mark d m (omega (arith, count_longer d m q))
    ];
    owned = λ d m l e. elim (ℕ_discrete k m) [
      | yes q ↦ omega (arith, push_mark n s k ch h cov low, ap (λ x. field s'' x 3) q)
      | no q ↦ a.owned d m l (sym (push_other n s k ch h m 3 (omega arith) (omega arith) q) ∙ e)
    ];
  }
