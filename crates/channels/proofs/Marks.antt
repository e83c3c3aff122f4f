-- Ties and lists that agree, said of the fields.
-- Assumes nothing.
use mathlib.Core.Path.{◌≡◌, refl, sym, ◌∙◌, ap}
use mathlib.Core.Bool.{Bool, true, false}
use mathlib.Core.List.{List}
use Rattle.std.specs.Prelude.{Option, None, Some}
use Prim.Native.Nat.{ℕ, ◌+◌, ◌-◌, ◌≤◌, ◌<◌}
use native.Mathlib.Omega.{arith}
use native.Mathlib.Decide.{dec_le, ℕ_discrete}
use lib.Dec.{eqb}
use borrow.Author.Tests.{eq-eqb, ne_eqb, eqb-true, lt-ltb, le-ltb}
use Rattle.channels.specs.Places.{field}
use Rattle.channels.specs.Numbers.{one, count}
use Rattle.channels.specs.Ties.{Tie, tie_of, through}
use Rattle.channels.specs.Lists.{Lists, ties_says, Linked, Agree}
use Rattle.channels.proofs.Limits.{apart}

-- ---- what the tables say of one channel

module _ (n : ℕ) (s : List ℕ) (k : ℕ) where
  pub says_past : n ≤ k → ties_says n s k ≡ None
  unfolding ties_says
  says_past l = rw (le-ltb k n l)

  module _ (l : k < n) where
    pub says_none : field s k 3 ≡ 0 → ties_says n s k ≡ None
    unfolding ties_says
    says_none e = rw (lt-ltb k n l, eq-eqb (field s k 3) 0 e)

    pub says_some : (ch h : ℕ) → field s k 3 ≡ ch + 1 → field s k 4 ≡ h → ties_says n s k ≡ Some (tie_of ch h)
    unfolding ties_says
    says_some ch h e q = let m : field s k 3 - 1 ≡ ch = omega arith in rw (lt-ltb k n l, ne_eqb (field s k 3) 0 (λ z. omega arith), m, q)

  -- what a tie tells of the fields
  pub record Told (t : Tie) : Type 0 where
    pub low : k < n
    pub mark : field s k 3 ≡ t.outgoing + 1

  pub told : (t : Tie) → ties_says n s k ≡ Some t → Told t
  told t e = elim (dec_le n k) [
    | yes l ↦ let z = says_past l in apart (cc)
    | no l ↦ elim (ℕ_discrete (field s k 3) 0) [
      | yes q ↦ let z = says_none (omega arith) q in apart (cc)
      | no q ↦
          let z = says_some (omega arith) (field s k 3 - 1) (field s k 4) (omega arith) refl in
          let a : field s k 3 - 1 ≡ t.outgoing = cc in
          record { low = omega arith; mark = omega arith }
    ]
  ]

pub says_same : (n : ℕ) (s s' : List ℕ) (k : ℕ) → field s' k 3 ≡ field s k 3 → field s' k 4 ≡ field s k 4 → ties_says n s' k ≡ ties_says n s k
unfolding ties_says
says_same n s s' k p q = rw (p, q)

-- ---- ties and lists

pub record Marked (n : ℕ) (s : List ℕ) (lists : Lists) : Type 0 where
  pub linked : (ch : ℕ) → ch < n → Linked s 0 (field s ch 2) (lists ch)
  pub counted : (ch k : ℕ) → k < n → field s k 3 ≡ ch + 1 → count k (lists ch) ≡ 1
  pub low : (ch k : ℕ) → 1 ≤ count k (lists ch) → k < n
  pub mark : (ch k : ℕ) → 1 ≤ count k (lists ch) → field s k 3 ≡ ch + 1
  pub owned : (ch k : ℕ) → k < n → field s k 3 ≡ ch + 1 → ch < n

module _ (n : ℕ) (s : List ℕ) (lists : Lists) where
  pub marks : Agree n s lists → Marked n s lists
  marks a = record {
    linked = a.linked;
    counted = λ ch k l e.
        let q = says_some n s k l ch (field s k 4) e refl in
        let o : one (through ch (ties_says n s k)) ≡ 1 = ap (λ x. one (through ch x)) q ∙ ap one (eq-eqb ch ch refl) in
        omega (arith, a.each ch k);
    low = λ ch k m. (member ch k m (ties_says n s k) refl).0;
    mark = λ ch k m. (member ch k m (ties_says n s k) refl).1;
    owned = λ ch k l e. a.low k (tie_of ch (field s k 4)) (says_some n s k l ch (field s k 4) e refl);
  }
    where
      same : (c d : ℕ) (b : Bool) → eqb d c ≡ b → 1 ≤ one b → d ≡ c
      same c d true e m = eqb-true d c e
      same c d false e m = absurd (omega arith)

      member : (ch k : ℕ) → 1 ≤ count k (lists ch) → (o : Option Tie) → ties_says n s k ≡ o → (k < n) × (field s k 3 ≡ ch + 1)
      member ch k m None e = absurd (omega (arith, a.each ch k, ap (λ x. one (through ch x)) e))
      member ch k m (Some t) e =
          let w = told n s k t e in
          let q : t.outgoing ≡ ch = same ch t.outgoing (eqb t.outgoing ch) refl (omega (arith, a.each ch k, ap (λ x. one (through ch x)) e)) in
          (w.low, w.mark ∙ ap (λ x. x + 1) q)

  module _ (m : Marked n s lists) where
    none_there : (ch k : ℕ) → (1 ≤ count k (lists ch) → ⊥) → count k (lists ch) ≡ 0
    none_there ch k h = elim (dec_le 1 (count k (lists ch))) [
      | yes l ↦ absurd (h l)
      | no l ↦ omega arith
    ]

    by_mark : (ch k : ℕ) → k < n → (d : ℕ) → field s k 3 ≡ d + 1 → count k (lists ch) ≡ one (through ch (ties_says n s k))
    by_mark ch k l d e = elim (ℕ_discrete d ch) [
      | yes q ↦ m.counted ch k l (omega arith) ∙ sym (ap (λ x. one (through ch x)) (says_some n s k l d (field s k 4) e refl) ∙ ap one (eq-eqb d ch q))
      | no q ↦ none_there ch k (λ z. q (omega (arith, m.mark ch k z))) ∙ sym (ap (λ x. one (through ch x)) (says_some n s k l d (field s k 4) e refl) ∙ ap one (ne_eqb d ch q))
    ]

    pub agrees : Agree n s lists
    agrees = record {
      linked = m.linked;
      each = λ ch k. elim (dec_le n k) [
        | yes l ↦ none_there ch k (λ z. omega (arith, m.low ch k z)) ∙ sym (ap (λ x. one (through ch x)) (says_past n s k l))
        | no l ↦ elim (ℕ_discrete (field s k 3) 0) [
          | yes q ↦ none_there ch k (λ z. omega (arith, m.mark ch k z)) ∙ sym (ap (λ x. one (through ch x)) (says_none n s k (omega arith) q))
          | no q ↦ by_mark ch k (omega arith) (field s k 3 - 1) (omega arith)
        ]
      ];
      low = λ k t e. let w = told n s k t e in m.owned t.outgoing k w.low w.mark;
    }

    pub once : (ch k : ℕ) → count k (lists ch) ≤ 1
    once ch k = elim (dec_le 1 (count k (lists ch))) [
      | yes l ↦ omega (arith, m.counted ch k (m.low ch k l) (m.mark ch k l))
      | no l ↦ omega arith
    ]
