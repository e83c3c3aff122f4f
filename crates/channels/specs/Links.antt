-- What passes between the private functions on ties: the tables after each step on the links. No public promise speaks of these.
-- Assumes nothing: these are definitions.
use Rattle.std.specs.Prelude.{◌≡◌, cond, List, ℕ, ◌+◌, ◌-◌, ◌≤◌, ◌<◌, eqb, length}
use Rattle.channels.specs.Places.{field, write, put, past}
use Rattle.channels.specs.Numbers.{count}
use Rattle.channels.specs.Lists.{Linked}

-- what leads to a channel in the list of ch, the channel p - 1 or the list itself, leads to next
unfoldable pub lead_to : ℕ → List ℕ → ℕ → ℕ → ℕ → List ℕ
lead_to n s ch p next = cond (eqb p 0) (put n s ch 2 next) (put n s (p - 1) 5 next)

-- before the channel next - 1, if there is one, comes p
unfoldable pub come_from : ℕ → List ℕ → ℕ → ℕ → List ℕ
come_from n s next p = cond (eqb next 0) s (put n s (next - 1) 6 p)

unfoldable pub bypassed : ℕ → List ℕ → ℕ → ℕ → ℕ → List ℕ
bypassed n s ch p next = come_from n (lead_to n s ch p next) next p

-- k is taken out of the list of ch
unfoldable pub taken_out : ℕ → List ℕ → ℕ → ℕ → List ℕ
taken_out n s k ch = write (bypassed n s ch (field s k 6) (field s k 5)) k 3 0

-- k is not tied
unfoldable pub unbound : ℕ → List ℕ → ℕ → List ℕ
unbound n s k = cond (eqb (field s k 3) 0) s (taken_out n s k (field s k 3 - 1))

-- k is tied through ch, with nothing before it and next after it
unfoldable pub bound : List ℕ → ℕ → ℕ → ℕ → ℕ → List ℕ
bound s k ch h next = write (write (write (write s k 3 (ch + 1)) k 4 h) k 5 next) k 6 0

-- k is put before the list of ch
unfoldable pub pushed : ℕ → List ℕ → ℕ → ℕ → ℕ → List ℕ
pushed n s k ch h = write (bound (come_from n s (field s ch 2) (k + 1)) k ch h (field s ch 2)) ch 2 (k + 1)

-- the channels of a list are not tied any more, and every other is as before
pub record Unmarked (l s s' : List ℕ) : Type 0 where
  pub gone : (k : ℕ) → 1 ≤ count k l → field s' k 3 ≡ 0
  pub left : (k : ℕ) → count k l ≡ 0 → field s' k 3 ≡ field s k 3

-- a list from e on, whose channels are tied through ch
pub record DropsFrom (n ch e : ℕ) (s s' : List ℕ) : Type 0 where
  pub long : length s' ≡ length s
  pub kept : (k f : ℕ) → f < 7 → (3 ≡ f → ⊥) → field s' k f ≡ field s k f
  pub rest : (m : ℕ) → n ≤ m → past m s' ≡ past m s
  pub unmarks :
      (l : List ℕ) (p : ℕ) → Linked s p e l → ((k : ℕ) → count k l ≤ 1) → ((k : ℕ) → 1 ≤ count k l → (field s k 3 ≡ ch + 1) × (k < n))
      → Unmarked l s s'
