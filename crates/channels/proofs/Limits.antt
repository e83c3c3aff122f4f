-- Counts within their limits, and the test of it.
-- Assumes nothing.
use mathlib.Core.Path.{◌≡◌, refl, sym, ◌∙◌, ap}
use mathlib.Core.Bool.{Bool, true, false, cond, ◌&&◌}
use Prim.Native.Nat.{ℕ, suc, ◌+◌, ◌≤◌, ◌<◌}
use native.Mathlib.Omega.{arith}
use native.Mathlib.Decide.{dec_le}
use lib.Dec.{leb, ltb, eqb}
use borrow.Author.Tests.{leb-true, ltb-true, eqb-true, le-leb, lt-leb, lt-ltb, eq-eqb, ne_eqb}
use Rattle.channels.specs.declared.OutgoingChannels.{OutgoingChannels}
use Rattle.channels.specs.Channels.{counts_ok}

pub apart : {A : Type 0} → ◌≡◌ {A = ℕ} 0 1 → A
apart z = absurd (omega arith)

pub both : (a b : Bool) → a && b ≡ true → (a ≡ true) × (b ≡ true)
both true b e = (refl, e)
both false b e = apart (cc)

neither : (a b : Bool) → b ≡ false → a && b ≡ false
neither true b e = e
neither false b e = refl

-- ---- what the test says

pub record Opened (t : OutgoingChannels) : Type 0 where
  pub low_freed : t.freed ≤ t.used
  pub low_used : t.used ≤ suc t.highest
  pub none_freed : t.freed ≡ 0 → t.head ≡ 0
  pub used_head : (t.freed ≡ 0 → ⊥) → t.head < t.used

pub record Closed (t : OutgoingChannels) : Type 0 where
  pub no_highest : t.highest ≡ 0
  pub no_used : t.used ≡ 0
  pub no_head : t.head ≡ 0
  pub no_freed : t.freed ≡ 0

module _ (t : OutgoingChannels) where
  -- the head, by whether any number is freed
  abbrev headed : Bool → Bool
  headed None = cond None (eqb t.head 0) (ltb t.head t.used)

  abbrev limits : Bool
  limits = leb t.freed t.used && (leb t.used (suc t.highest) && headed (eqb t.freed 0))

  abbrev zeros : Bool
  zeros = eqb t.highest 0 && (eqb t.used 0 && (eqb t.head 0 && eqb t.freed 0))

  when_opened : t.opened ≡ true → counts_ok t ≡ limits
  unfolding counts_ok
  when_opened o = rw o

  when_closed : t.opened ≡ false → counts_ok t ≡ zeros
  unfolding counts_ok
  when_closed o = rw o

  pub opened_limits : t.opened ≡ true → counts_ok t ≡ true → Opened t
  opened_limits o e =
      let a = both (leb t.freed t.used) (leb t.used (suc t.highest) && headed (eqb t.freed 0)) (sym (when_opened o) ∙ e) in
      let b = both (leb t.used (suc t.highest)) (headed (eqb t.freed 0)) a.1 in
      record {
        low_freed = leb-true t.freed t.used a.0;
        low_used = leb-true t.used (suc t.highest) b.0;
        none_freed = λ z. eqb-true t.head 0 (sym (ap headed (eq-eqb t.freed 0 z)) ∙ b.1);
        used_head = λ n. ltb-true t.head t.used (sym (ap headed (ne_eqb t.freed 0 n)) ∙ b.1);
      }

  pub opened_head : Opened t → t.head ≤ t.highest
  opened_head i = elim (dec_le t.freed 0) [
    | yes l ↦ omega (arith, i.none_freed (omega arith))
    | no l ↦ omega (arith, i.used_head (λ z. omega arith), i.low_used)
  ]

  pub closed_limits : t.opened ≡ false → counts_ok t ≡ true → Closed t
  closed_limits o e =
      let a = both (eqb t.highest 0) (eqb t.used 0 && (eqb t.head 0 && eqb t.freed 0)) (sym (when_closed o) ∙ e) in
      let b = both (eqb t.used 0) (eqb t.head 0 && eqb t.freed 0) a.1 in
      let c = both (eqb t.head 0) (eqb t.freed 0) b.1 in
      record {
        no_highest = eqb-true t.highest 0 a.0;
        no_used = eqb-true t.used 0 b.0;
        no_head = eqb-true t.head 0 c.0;
        no_freed = eqb-true t.freed 0 c.1;
      }

  pub opened_within : t.opened ≡ true → Opened t → counts_ok t ≡ true
  opened_within o i = when_opened o ∙ rw (le-leb t.freed t.used i.low_freed, le-leb t.used (suc t.highest) i.low_used) head_fine
    where
      head_fine : headed (eqb t.freed 0) ≡ true
      head_fine = elim (dec_le t.freed 0) [
        | yes l ↦ ap headed (eq-eqb t.freed 0 (omega arith)) ∙ eq-eqb t.head 0 (i.none_freed (omega arith))
        | no l ↦ ap headed (ne_eqb t.freed 0 (λ z. omega arith)) ∙ lt-ltb t.head t.used (i.used_head (λ z. omega arith))
      ]

  pub used_low : counts_ok t ≡ true → t.used ≤ suc t.highest
  used_low e = go t.opened refl
    where
      go : (b : Bool) → t.opened ≡ b → t.used ≤ suc t.highest
      go true o = (opened_limits o e).low_used
      go false o = omega (arith, (closed_limits o e).no_used)

-- ---- is_within

module _ (t : OutgoingChannels) (most : ℕ) (e : most ≡ t.highest) where
  module _ (o : t.opened ≡ true) where
    pub freed_over : t.used < t.freed → false ≡ counts_ok t
    freed_over l = sym (when_opened t o ∙ rw (lt-leb t.freed t.used l))

    module _ (l : t.freed ≤ t.used) where
      pub used_beyond : most + 1 < t.used → false ≡ counts_ok t
      used_beyond m = sym (when_opened t o ∙ rw (le-leb t.freed t.used l, lt-leb t.used (suc t.highest) (omega arith)))

      module _ (m : t.used ≤ most + 1) where
        head_by : (None : Bool) → eqb t.freed 0 ≡ None → headed t None ≡ counts_ok t
        head_by None q = sym (when_opened t o ∙ rw (le-leb t.freed t.used l, le-leb t.used (suc t.highest) (omega arith)) (ap (headed t) q))

        pub head_none : t.freed ≡ 0 → eqb t.head 0 ≡ counts_ok t
        head_none z = head_by true (eq-eqb t.freed 0 z)

        pub head_used : (t.freed ≡ 0 → ⊥) → ltb t.head t.used ≡ counts_ok t
        head_used n = head_by false (ne_eqb t.freed 0 n)

  module _ (o : t.opened ≡ false) where
    pub highest_over : 0 < most → false ≡ counts_ok t
    highest_over l = sym (when_closed t o ∙ rw (ne_eqb t.highest 0 (λ z. omega arith)))

    pub used_over : most ≤ 0 → 0 < t.used → false ≡ counts_ok t
    used_over m l = sym (when_closed t o ∙ rw (eq-eqb t.highest 0 (omega arith), ne_eqb t.used 0 (λ z. omega arith)))

    pub head_above : most ≤ 0 → t.used ≤ 0 → 0 < t.head → false ≡ counts_ok t
    head_above m n l = sym (when_closed t o ∙ rw (eq-eqb t.highest 0 (omega arith), eq-eqb t.used 0 (omega arith), ne_eqb t.head 0 (λ z. omega arith)))

    pub freed_tested : most ≤ 0 → t.used ≤ 0 → t.head ≤ 0 → eqb t.freed 0 ≡ counts_ok t
    freed_tested m n l = sym (when_closed t o ∙ rw (eq-eqb t.highest 0 (omega arith), eq-eqb t.used 0 (omega arith), eq-eqb t.head 0 (omega arith)))
