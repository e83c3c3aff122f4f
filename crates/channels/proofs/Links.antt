-- The fields of the tables once a channel was taken out of a list, or put before it.
-- Assumes nothing.
use mathlib.Core.Path.{◌≡◌, refl, ◌∙◌}
use mathlib.Core.List.{List}
use Prim.Native.Nat.{ℕ, suc, ◌+◌, ◌-◌, ◌≤◌, ◌<◌}
use native.Mathlib.Omega.{arith}
use native.Mathlib.Decide.{ℕ_discrete}
use lib.ListN.{length}
use borrow.Author.Tests.{eq-eqb, ne_eqb}
use Rattle.channels.specs.Places.{Covers, field, write, put, past}
use Rattle.channels.specs.Links.{lead_to, come_from, bypassed, taken_out, bound, pushed}
use Rattle.channels.proofs.Fields.{length_write, field_same, field_beside, field_apart, past_write, length_put, put_same, put_beside, put_apart, past_put}
use Rattle.channels.proofs.Kept.{KeepsNumbers}

-- ---- what leads to a channel

module _ (n : ℕ) (s : List ℕ) (ch p next : ℕ) where
  pub lead_first : p ≡ 0 → put n s ch 2 next ≡ lead_to n s ch p next
  unfolding lead_to
  lead_first e = rw (eq-eqb p 0 e)

  pub lead_next : (p ≡ 0 → ⊥) → put n s (p - 1) 5 next ≡ lead_to n s ch p next
  unfolding lead_to
  lead_next e = rw (ne_eqb p 0 e)

  lead_either : (P : List ℕ → Type 0) → P (put n s ch 2 next) → P (put n s (p - 1) 5 next) → P (lead_to n s ch p next)
  lead_either P a b = elim (ℕ_discrete p 0) [
    | yes e ↦ rw (← lead_first e) a
    | no e ↦ rw (← lead_next e) b
  ]

  lead_long : length (lead_to n s ch p next) ≡ length s
  lead_long = lead_either (λ t. length t ≡ length s) (length_put n s ch 2 next) (length_put n s (p - 1) 5 next)

  lead_past : (m : ℕ) → n ≤ m → past m (lead_to n s ch p next) ≡ past m s
  lead_past m l = lead_either (λ t. past m t ≡ past m s) (past_put n s ch 2 next m (omega arith) l) (past_put n s (p - 1) 5 next m (omega arith) l)

  lead_beside : (j g : ℕ) → g < 7 → (2 ≡ g → ⊥) → (5 ≡ g → ⊥) → field (lead_to n s ch p next) j g ≡ field s j g
  lead_beside j g l a b = lead_either (λ t. field t j g ≡ field s j g) (put_beside n s ch 2 next j g (omega arith) l a) (put_beside n s (p - 1) 5 next j g (omega arith) l b)

  lead_first_at : p ≡ 0 → Covers n s → ch < n → field (lead_to n s ch p next) ch 2 ≡ next
  lead_first_at e c l = rw (← lead_first e) (put_same n s ch 2 next c l (omega arith))

  lead_first_other : (d : ℕ) → (p ≡ 0 → ch ≡ d → ⊥) → field (lead_to n s ch p next) d 2 ≡ field s d 2
  lead_first_other d h = elim (ℕ_discrete p 0) [
    | yes e ↦ rw (← lead_first e) (put_apart n s ch 2 next d 2 (omega arith) (omega arith) (h e))
    | no e ↦ rw (← lead_next e) (put_beside n s (p - 1) 5 next d 2 (omega arith) (omega arith) (λ z. omega arith))
  ]

  lead_next_at : (j : ℕ) → p ≡ suc j → Covers n s → j < n → field (lead_to n s ch p next) j 5 ≡ next
  lead_next_at j e c l = let q : p - 1 ≡ j = omega arith in rw (← lead_next (λ z. omega arith), q) (put_same n s j 5 next c l (omega arith))

  lead_next_other : (j : ℕ) → (p ≡ suc j → ⊥) → field (lead_to n s ch p next) j 5 ≡ field s j 5
  lead_next_other j h = elim (ℕ_discrete p 0) [
    | yes e ↦ rw (← lead_first e) (put_beside n s ch 2 next j 5 (omega arith) (omega arith) (λ z. omega arith))
    | no e ↦ rw (← lead_next e) (put_apart n s (p - 1) 5 next j 5 (omega arith) (omega arith) (λ z. h (omega arith)))
  ]

-- ---- what comes before a channel

module _ (n : ℕ) (s : List ℕ) (next p : ℕ) where
  pub come_none : next ≡ 0 → s ≡ come_from n s next p
  unfolding come_from
  come_none e = rw (eq-eqb next 0 e)

  pub come_one : (next ≡ 0 → ⊥) → put n s (next - 1) 6 p ≡ come_from n s next p
  unfolding come_from
  come_one e = rw (ne_eqb next 0 e)

  come_either : (P : List ℕ → Type 0) → P s → P (put n s (next - 1) 6 p) → P (come_from n s next p)
  come_either P a b = elim (ℕ_discrete next 0) [
    | yes e ↦ rw (← come_none e) a
    | no e ↦ rw (← come_one e) b
  ]

  come_long : length (come_from n s next p) ≡ length s
  come_long = come_either (λ t. length t ≡ length s) refl (length_put n s (next - 1) 6 p)

  come_past : (m : ℕ) → n ≤ m → past m (come_from n s next p) ≡ past m s
  come_past m l = come_either (λ t. past m t ≡ past m s) refl (past_put n s (next - 1) 6 p m (omega arith) l)

  come_beside : (j g : ℕ) → g < 7 → (6 ≡ g → ⊥) → field (come_from n s next p) j g ≡ field s j g
  come_beside j g l a = come_either (λ t. field t j g ≡ field s j g) refl (put_beside n s (next - 1) 6 p j g (omega arith) l a)

  come_at : (j : ℕ) → next ≡ suc j → Covers n s → j < n → field (come_from n s next p) j 6 ≡ p
  come_at j e c l = let q : next - 1 ≡ j = omega arith in rw (← come_one (λ z. omega arith), q) (put_same n s j 6 p c l (omega arith))

  come_other : (j : ℕ) → (next ≡ suc j → ⊥) → field (come_from n s next p) j 6 ≡ field s j 6
  come_other j h = elim (ℕ_discrete next 0) [
    | yes e ↦ rw (← come_none e)
    | no e ↦ rw (← come_one e) (put_apart n s (next - 1) 6 p j 6 (omega arith) (omega arith) (λ z. h (omega arith)))
  ]

-- ---- a channel taken out

module _ (n : ℕ) (s : List ℕ) (k ch : ℕ) where
  abbrev p : ℕ
  p = field s k 6

  abbrev next : ℕ
  next = field s k 5

  out_beside : (j g : ℕ) → g < 7 → (3 ≡ g → ⊥) → field (taken_out n s k ch) j g ≡ field (bypassed n s ch p next) j g
  unfolding taken_out
  out_beside j g l a = field_beside (bypassed n s ch p next) k 3 0 j g (omega arith) l a

  by_beside : (j g : ℕ) → g < 7 → (6 ≡ g → ⊥) → field (bypassed n s ch p next) j g ≡ field (lead_to n s ch p next) j g
  unfolding bypassed
  by_beside j g l a = come_beside n (lead_to n s ch p next) next p j g l a

  by_long : length (bypassed n s ch p next) ≡ length s
  unfolding bypassed
  by_long = come_long n (lead_to n s ch p next) next p ∙ lead_long n s ch p next

  by_past : (m : ℕ) → n ≤ m → past m (bypassed n s ch p next) ≡ past m s
  unfolding bypassed
  by_past m l = come_past n (lead_to n s ch p next) next p m l ∙ lead_past n s ch p next m l

  pub out_long : length (taken_out n s k ch) ≡ length s
  unfolding taken_out
  out_long = length_write (bypassed n s ch p next) k 3 0 ∙ by_long

  -- the fields that no step writes
  pub out_same : (j g : ℕ) → g < 7 → (2 ≡ g → ⊥) → (3 ≡ g → ⊥) → (5 ≡ g → ⊥) → (6 ≡ g → ⊥) → field (taken_out n s k ch) j g ≡ field s j g
  out_same j g l x y z w = out_beside j g l y ∙ by_beside j g l w ∙ lead_beside n s ch p next j g l x z

  pub out_numbers : k < n → KeepsNumbers n s (taken_out n s k ch)
  unfolding taken_out
  out_numbers low = record {
    long = out_long;
    same = λ j f a l. out_same j f (omega arith) (λ z. omega arith) (λ z. omega arith) (λ z. omega arith) (λ z. omega arith);
    rest = λ m l. past_write (bypassed n s ch p next) k 3 0 m (omega arith) (omega arith) ∙ by_past m l;
  }

  pub out_mark_other : (j : ℕ) → (k ≡ j → ⊥) → field (taken_out n s k ch) j 3 ≡ field s j 3
  unfolding taken_out
  out_mark_other j h =
      field_apart (bypassed n s ch p next) k 3 0 j 3 (omega arith) (omega arith) h
      ∙ by_beside j 3 (omega arith) (λ z. omega arith)
      ∙ lead_beside n s ch p next j 3 (omega arith) (λ z. omega arith) (λ z. omega arith)

  pub out_first_other : (d : ℕ) → (p ≡ 0 → ch ≡ d → ⊥) → field (taken_out n s k ch) d 2 ≡ field s d 2
  out_first_other d h = out_beside d 2 (omega arith) (λ z. omega arith) ∙ by_beside d 2 (omega arith) (λ z. omega arith) ∙ lead_first_other n s ch p next d h

  pub out_next_other : (j : ℕ) → (p ≡ suc j → ⊥) → field (taken_out n s k ch) j 5 ≡ field s j 5
  out_next_other j h = out_beside j 5 (omega arith) (λ z. omega arith) ∙ by_beside j 5 (omega arith) (λ z. omega arith) ∙ lead_next_other n s ch p next j h

  pub out_previous_other : (j : ℕ) → (next ≡ suc j → ⊥) → field (taken_out n s k ch) j 6 ≡ field s j 6
  unfolding bypassed
  out_previous_other j h =
      out_beside j 6 (omega arith) (λ z. omega arith)
      ∙ come_other n (lead_to n s ch p next) next p j h
      ∙ lead_beside n s ch p next j 6 (omega arith) (λ z. omega arith) (λ z. omega arith)

  module _ (c : Covers n s) where
    pub out_mark : k < n → field (taken_out n s k ch) k 3 ≡ 0
    unfolding taken_out
    out_mark l = field_same (bypassed n s ch p next) k 3 0 (omega (arith, by_long)) (omega arith)

    pub out_first : p ≡ 0 → ch < n → field (taken_out n s k ch) ch 2 ≡ next
    out_first e l = out_beside ch 2 (omega arith) (λ z. omega arith) ∙ by_beside ch 2 (omega arith) (λ z. omega arith) ∙ lead_first_at n s ch p next e c l

    pub out_next : (j : ℕ) → p ≡ suc j → j < n → field (taken_out n s k ch) j 5 ≡ next
    out_next j e l = out_beside j 5 (omega arith) (λ z. omega arith) ∙ by_beside j 5 (omega arith) (λ z. omega arith) ∙ lead_next_at n s ch p next j e c l

    pub out_previous : (j : ℕ) → next ≡ suc j → j < n → field (taken_out n s k ch) j 6 ≡ p
    unfolding bypassed
    out_previous j e l = out_beside j 6 (omega arith) (λ z. omega arith) ∙ come_at n (lead_to n s ch p next) next p j e (omega (arith, lead_long n s ch p next)) l

-- ---- the fields of a channel that leads a list

module _ (s : List ℕ) (k ch h next : ℕ) where
  abbrev s₁ : List ℕ
  s₁ = write s k 3 (ch + 1)

  abbrev s₂ : List ℕ
  s₂ = write s₁ k 4 h

  abbrev s₃ : List ℕ
  s₃ = write s₂ k 5 next

  long₁ : length s₁ ≡ length s
  long₁ = length_write s k 3 (ch + 1)

  long₂ : length s₂ ≡ length s
  long₂ = length_write s₁ k 4 h ∙ long₁

  long₃ : length s₃ ≡ length s
  long₃ = length_write s₂ k 5 next ∙ long₂

  bound_long : length (bound s k ch h next) ≡ length s
  unfolding bound
  bound_long = length_write s₃ k 6 0 ∙ long₃

  bound_past : (m : ℕ) → k < m → past m (bound s k ch h next) ≡ past m s
  unfolding bound
  bound_past m l =
      past_write s₃ k 6 0 m (omega arith) l
      ∙ past_write s₂ k 5 next m (omega arith) l
      ∙ past_write s₁ k 4 h m (omega arith) l
      ∙ past_write s k 3 (ch + 1) m (omega arith) l

  bound_apart : (j g : ℕ) → g < 7 → (k ≡ j → ⊥) → field (bound s k ch h next) j g ≡ field s j g
  unfolding bound
  bound_apart j g l n =
      field_apart s₃ k 6 0 j g (omega arith) l n
      ∙ field_apart s₂ k 5 next j g (omega arith) l n
      ∙ field_apart s₁ k 4 h j g (omega arith) l n
      ∙ field_apart s k 3 (ch + 1) j g (omega arith) l n

  bound_low : (j g : ℕ) → g < 3 → field (bound s k ch h next) j g ≡ field s j g
  unfolding bound
  bound_low j g l =
      field_beside s₃ k 6 0 j g (omega arith) (omega arith) (λ z. omega arith)
      ∙ field_beside s₂ k 5 next j g (omega arith) (omega arith) (λ z. omega arith)
      ∙ field_beside s₁ k 4 h j g (omega arith) (omega arith) (λ z. omega arith)
      ∙ field_beside s k 3 (ch + 1) j g (omega arith) (omega arith) (λ z. omega arith)

  module _ (w : Covers (suc k) s) where
    bound_mark : field (bound s k ch h next) k 3 ≡ ch + 1
    unfolding bound
    bound_mark =
        field_beside s₃ k 6 0 k 3 (omega arith) (omega arith) (λ z. omega arith)
        ∙ field_beside s₂ k 5 next k 3 (omega arith) (omega arith) (λ z. omega arith)
        ∙ field_beside s₁ k 4 h k 3 (omega arith) (omega arith) (λ z. omega arith)
        ∙ field_same s k 3 (ch + 1) w (omega arith)

    bound_handle : field (bound s k ch h next) k 4 ≡ h
    unfolding bound
    bound_handle =
        field_beside s₃ k 6 0 k 4 (omega arith) (omega arith) (λ z. omega arith)
        ∙ field_beside s₂ k 5 next k 4 (omega arith) (omega arith) (λ z. omega arith)
        ∙ field_same s₁ k 4 h (omega (arith, long₁)) (omega arith)

    bound_next : field (bound s k ch h next) k 5 ≡ next
    unfolding bound
    bound_next =
        field_beside s₃ k 6 0 k 5 (omega arith) (omega arith) (λ z. omega arith)
        ∙ field_same s₂ k 5 next (omega (arith, long₂)) (omega arith)

    bound_previous : field (bound s k ch h next) k 6 ≡ 0
    unfolding bound
    bound_previous = field_same s₃ k 6 0 (omega (arith, long₃)) (omega arith)

-- ---- a channel put before a list

module _ (n : ℕ) (s : List ℕ) (k ch h : ℕ) where
  abbrev first : ℕ
  first = field s ch 2

  abbrev came : List ℕ
  came = come_from n s first (k + 1)

  abbrev leading : List ℕ
  leading = bound came k ch h first

  leading_long : length leading ≡ length s
  leading_long = bound_long came k ch h first ∙ come_long n s first (k + 1)

  push_beside : (j g : ℕ) → g < 7 → (2 ≡ g → ⊥) → field (pushed n s k ch h) j g ≡ field leading j g
  unfolding pushed
  push_beside j g l a = field_beside leading ch 2 (k + 1) j g (omega arith) l a

  pub push_long : length (pushed n s k ch h) ≡ length s
  unfolding pushed
  push_long = length_write leading ch 2 (k + 1) ∙ leading_long

  pub push_numbers : k < n → ch < n → KeepsNumbers n s (pushed n s k ch h)
  unfolding pushed
  push_numbers low c = record {
    long = push_long;
    same = λ j f a l. push_beside j f (omega arith) (λ z. omega arith) ∙ bound_low came k ch h first j f (omega arith) ∙ come_beside n s first (k + 1) j f (omega arith) (λ z. omega arith);
    rest = λ m l. past_write leading ch 2 (k + 1) m (omega arith) (omega arith) ∙ bound_past came k ch h first m (omega arith) ∙ come_past n s first (k + 1) m l;
  }

  pub push_first_other : (d : ℕ) → (ch ≡ d → ⊥) → field (pushed n s k ch h) d 2 ≡ field s d 2
  unfolding pushed
  push_first_other d x =
      field_apart leading ch 2 (k + 1) d 2 (omega arith) (omega arith) x
      ∙ bound_low came k ch h first d 2 (omega arith)
      ∙ come_beside n s first (k + 1) d 2 (omega arith) (λ z. omega arith)

  -- the fields of other channels, but for the link back
  pub push_other : (j g : ℕ) → 3 ≤ g → g < 6 → (k ≡ j → ⊥) → field (pushed n s k ch h) j g ≡ field s j g
  push_other j g m l x =
      push_beside j g (omega arith) (λ z. omega arith)
      ∙ bound_apart came k ch h first j g (omega arith) x
      ∙ come_beside n s first (k + 1) j g (omega arith) (λ z. omega arith)

  pub push_previous_other : (j : ℕ) → (first ≡ suc j → ⊥) → (k ≡ j → ⊥) → field (pushed n s k ch h) j 6 ≡ field s j 6
  push_previous_other j e x = push_beside j 6 (omega arith) (λ z. omega arith) ∙ bound_apart came k ch h first j 6 (omega arith) x ∙ come_other n s first (k + 1) j e

  module _ (c : Covers n s) where
    pub push_first : ch < n → field (pushed n s k ch h) ch 2 ≡ k + 1
    unfolding pushed
    push_first l = field_same leading ch 2 (k + 1) (omega (arith, leading_long)) (omega arith)

    pub push_previous : (j : ℕ) → first ≡ suc j → (k ≡ j → ⊥) → j < n → field (pushed n s k ch h) j 6 ≡ k + 1
    push_previous j e x l = push_beside j 6 (omega arith) (λ z. omega arith) ∙ bound_apart came k ch h first j 6 (omega arith) x ∙ come_at n s first (k + 1) j e c l

    module _ (low : k < n) where
      place : Covers (suc k) came
      place = omega (arith, come_long n s first (k + 1))

      pub push_mark : field (pushed n s k ch h) k 3 ≡ ch + 1
      push_mark = push_beside k 3 (omega arith) (λ z. omega arith) ∙ bound_mark came k ch h first place

      pub push_handle : field (pushed n s k ch h) k 4 ≡ h
      push_handle = push_beside k 4 (omega arith) (λ z. omega arith) ∙ bound_handle came k ch h first place

      pub push_next : field (pushed n s k ch h) k 5 ≡ first
      push_next = push_beside k 5 (omega arith) (λ z. omega arith) ∙ bound_next came k ch h first place

      pub push_none_before : field (pushed n s k ch h) k 6 ≡ 0
      push_none_before = push_beside k 6 (omega arith) (λ z. omega arith) ∙ bound_previous came k ch h first place
