-- What is known of sound numbers.
-- Assumes nothing.
use mathlib.Core.Path.{◌≡◌, refl, sym, ◌∙◌, ap, subst}
use mathlib.Core.Bool.{Bool, true, false, cond}
use mathlib.Core.List.{List, ◌∷◌}
use Rattle.std.specs.Prelude.{None, Some}
use Prim.Native.Nat.{ℕ, suc, ◌+◌, ◌-◌, ◌≤◌, ◌<◌}
use native.Mathlib.Omega.{arith}
use native.Mathlib.Decide.{dec_le}
use lib.Dec.{leb, ltb, eqb}
use lib.ListN.{length-append}
use borrow.Author.Tests.{eq-eqb, ne_eqb, lt-ltb, le-ltb, le-leb, lt-leb}
use Rattle.channels.specs.Places.{field}
use Rattle.channels.specs.Numbers.{nowhere, up_from, one, is_taken, count, EachOnce, Shared, taken_below}
use Rattle.channels.specs.declared.OutgoingChannels.{OutgoingChannels}
use Rattle.channels.specs.Channels.{chain, free, agreed_says, hand_out_says, taken_says, Sound}
use Rattle.channels.proofs.Numbers.{one_small, once_taken, within_once}
use Rattle.channels.proofs.Counting.{none_below, free_and_taken}
use Rattle.channels.proofs.Limits.{apart, opened_limits, closed_limits, used_low}
use Rattle.channels.proofs.Chains.{chain_length, chain_none, chain_pop, count_append, count_first, length_up}

-- the first of the freed numbers, and the one after it
abbrev pub next_free : OutgoingChannels → ℕ
next_free t = cond (eqb t.freed 0) 0 t.head

abbrev pub after_head : OutgoingChannels → List ℕ → ℕ
after_head t s = cond (leb t.freed 1) 0 (field s t.head 0)

-- ---- which numbers are taken

module _ (t : OutgoingChannels) (s : List ℕ) (k : ℕ) where
  pub says_taken : (h : ℕ) → k < t.used → field s k 0 ≡ 65536 → field s k 1 ≡ h → taken_says t s k ≡ Some h
  unfolding taken_says
  says_taken h l e q = rw (lt-ltb k t.used l, eq-eqb (field s k 0) 65536 e, q)

  pub says_free : k < t.used → (field s k 0 ≡ 65536 → ⊥) → taken_says t s k ≡ None
  unfolding taken_says
  says_free l e = rw (lt-ltb k t.used l, ne_eqb (field s k 0) 65536 e)

  pub says_past : t.used ≤ k → taken_says t s k ≡ None
  unfolding taken_says
  says_past l = rw (le-ltb k t.used l)

  pub says_same : (t' : OutgoingChannels) (s' : List ℕ) → ltb k t'.used ≡ ltb k t.used → field s' k 0 ≡ field s k 0 → field s' k 1 ≡ field s k 1 → taken_says t' s' k ≡ taken_says t s k
  unfolding taken_says
  says_same t' s' e p q = rw (e, p, q)

module _ (self : OutgoingChannels) (s : List ℕ) where
  pub list_of : self.opened ≡ true → hand_out_says self s ≡ Some (free self s)
  unfolding hand_out_says
  list_of o = rw o

  module _ (i : Sound self s) where
    shared_at : (b : Bool) → self.opened ≡ b → Shared (cond b (Some self.highest) None) (cond b (Some (free self s)) None) (taken_says self s)
    unfolding agreed_says hand_out_says
    shared_at b o = subst (λ (b : Bool). Shared (cond b (Some self.highest) None) (cond b (Some (free self s)) None) (taken_says self s)) o i.shared

    pub once : self.opened ≡ true → EachOnce self.highest (free self s) (taken_says self s)
    once o = shared_at true o

    pub nothing_taken : self.opened ≡ false → taken_says self s ≡ nowhere
    nothing_taken o = shared_at false o

    -- where a number is taken, the peer's Open has come
    pub is_open : (k h : ℕ) → taken_says self s k ≡ Some h → self.opened ≡ true
    is_open k h e = go self.opened refl
      where
        go : (b : Bool) → self.opened ≡ b → self.opened ≡ true
        go true o = o
        go false o = let z : taken_says self s k ≡ None = ap (λ f. f k) (nothing_taken o) in apart (cc)

    -- a taken number is at most the agreed channel-max, and was handed out
    pub taken_low : (k h : ℕ) → taken_says self s k ≡ Some h → k ≤ self.highest
    taken_low k h e = once_taken self.highest (free self s) (taken_says self s) k h (once (is_open k h e)) e

    pub taken_used : (k h : ℕ) → taken_says self s k ≡ Some h → k < self.used
    taken_used k h e = elim (dec_le self.used k) [
      | yes l ↦ let z = says_past self s k l in apart (cc)
      | no l ↦ omega arith
    ]

    -- how many are free, and how many are taken
    pub all_numbers : (n : ℕ) → suc self.highest ≤ n → self.freed + taken_below n (taken_says self s) ≡ self.used
    all_numbers n l = go self.opened refl
      where
        go : (b : Bool) → self.opened ≡ b → self.freed + taken_below n (taken_says self s) ≡ self.used
        go true o =
            omega (
              arith,
              used_low self i.within,
              free_and_taken self.highest (free self s) (taken_says self s) (once o) n (omega arith),
              length-append (chain s self.head self.freed) (up_from self.used (suc self.highest - self.used)),
              chain_length s self.head self.freed,
              length_up self.used (suc self.highest - self.used),
            )
        go false o =
            omega (
              arith,
              none_below n (taken_says self s) (nothing_taken o),
              (closed_limits self o i.within).no_used,
              (closed_limits self o i.within).no_freed,
            )

    -- ---- the first freed number and the one after it

    module _ (o : self.opened ≡ true) (n : self.freed ≡ 0 → ⊥) where
      abbrev rest : List ℕ
      rest = chain s (after_head self s) (self.freed - 1)

      abbrev new : List ℕ
      new = up_from self.used (suc self.highest - self.used)

      -- a link that leads to no number is not followed
      pub follows : chain s self.head self.freed ≡ self.head ∷ rest
      follows = chain_pop s self.head self.freed n ∙ ap (λ l. self.head ∷ l) next
        where
          next : chain s (field s self.head 0) (self.freed - 1) ≡ chain s (after_head self s) (self.freed - 1)
          next = elim (dec_le self.freed 1) [
            | yes l ↦ chain_none s (field s self.head 0) (self.freed - 1) (omega arith) ∙ sym (chain_none s (after_head self s) (self.freed - 1) (omega arith))
            | no l ↦ rw (lt-leb self.freed 1 (omega arith))
          ]

      counted : (k : ℕ) → count k (self.head ∷ rest) + count k new + is_taken (taken_says self s k) ≡ one (leb k self.highest)
      counted k =
          let e : count k (chain s self.head self.freed) ≡ count k (self.head ∷ rest) = ap (count k) follows in
          omega (arith, once o k, count_append k (chain s self.head self.freed) new)

      listed_low : (k : ℕ) → 0 < count k (self.head ∷ rest) → k ≤ self.highest
      listed_low k l = elim (dec_le k self.highest) [
        | yes m ↦ m
        | no m ↦ let e : one (leb k self.highest) ≡ 0 = ap one (lt-leb k self.highest (omega arith)) in absurd (omega (arith, counted k))
      ]

      head_counted : 1 + count self.head rest + count self.head new ≤ 1
      head_counted = omega (arith, count_first self.head rest, counted self.head, one_small (leb self.head self.highest))

      pub head_low : self.head ≤ self.highest
      head_low = listed_low self.head (omega (arith, count_first self.head rest))

      -- it stands nowhere else in the list
      pub head_alone : count self.head rest ≡ 0
      head_alone = omega (arith, head_counted)

      pub head_used : self.head < self.used
      head_used = (opened_limits self o i.within).used_head n

      -- a number that is listed was handed out before
      listed_used : (k : ℕ) → 0 < count k (self.head ∷ rest) → k < self.used
      listed_used k c = elim (dec_le self.used k) [
        | yes l ↦
            let e : count k new ≡ 1 = within_once k self.used (suc self.highest - self.used) l (omega (arith, listed_low k c, used_low self i.within)) in
            absurd (omega (arith, counted k, one_small (leb k self.highest)))
        | no l ↦ omega arith
      ]

      pub after_used : after_head self s < self.used
      after_used = elim (dec_le self.freed 1) [
        | yes l ↦
            let e : after_head self s ≡ 0 = rw (le-leb self.freed 1 l) in
            omega (arith, (opened_limits self o i.within).low_freed)
        | no l ↦
            let k = after_head self s in
            let e : count k rest ≡ count k (k ∷ chain s (field s k 0) (self.freed - 1 - 1)) = ap (count k) (chain_pop s k (self.freed - 1) (λ z. omega arith)) in
            listed_used k (omega (arith, count_first k (chain s (field s k 0) (self.freed - 1 - 1))))
      ]
