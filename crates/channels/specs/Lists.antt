-- The ties of a connection in the lent tables, and beside them for each outgoing channel the list of the incoming channels that are tied through it:
-- what the tables stand for, when the two agree, and what each call promises.
-- Assumes nothing: these are definitions.
use Rattle.std.specs.Prelude.{◌≡◌, cond, List, [], ◌∷◌, ℕ, suc, ◌-◌, ◌<◌, ltb, eqb, Option, None, Some}
use Rattle.channels.specs.Places.{Covers, field, Keeps}
use Rattle.channels.specs.Numbers.{nowhere, with, one, count}
use Rattle.channels.specs.Ties.{Tie, tie_of, Ties, handle_of, through, dropped}

-- what the first n incoming channels are tied to; there are no others
unfoldable pub ties_says : ℕ → List ℕ → Ties
ties_says n s k = cond (ltb k n) (cond (eqb (field s k 3) 0) None (Some (tie_of (field s k 3 - 1) (field s k 4)))) None

-- ---- the lists

-- incoming channels by outgoing channel
abbrev pub Lists : Type 0
Lists = ℕ → List ℕ

-- a list by its links, both ways: e is one more than its first channel, or 0 where there is none, and p says the same of the channel before
abbrev pub Linked : List ℕ → ℕ → ℕ → List ℕ → Type 0
Linked s p e [] = e ≡ 0
Linked s p e (k ∷ l) = (e ≡ suc k) × (field s k 6 ≡ p) × Linked s (suc k) (field s k 5) l

-- lists and ties of n channels agree: each list is linked, a channel stands once in the list of the channel through which it is tied, and in no other, and that is one of the n
pub record Agree (n : ℕ) (s : List ℕ) (lists : Lists) : Type 0 where
  pub linked : (ch : ℕ) → ch < n → Linked s 0 (field s ch 2) (lists ch)
  pub each : (ch k : ℕ) → count k (lists ch) ≡ one (through ch (ties_says n s k))
  pub low : (k : ℕ) (t : Tie) → ties_says n s k ≡ Some t → t.outgoing < n

-- tables with a place for each of n channels, and lists that agree with their ties
pub record Listed (n : ℕ) (s : List ℕ) : Type 0 where
  pub covered : Covers n s
  pub lists : Lists
  pub agree : Agree n s lists

-- ---- what the calls promise

-- the tables stand for these ties
pub record TiedAs (n : ℕ) (ties : Ties) (s : List ℕ) : Type 0 where
  pub says : ties_says n s ≡ ties
  pub listed : Listed n s

-- no channel is tied where there is a place for each
pub record Clears (n : ℕ) (s s' : List ℕ) : Type 0 where
  pub clears : Covers n s → TiedAs n nowhere s'
  pub numbers : Keeps 0 2 n s s'

abbrev pub LowTie : ℕ → Option Tie → Type 0
LowTie n None = Unit {0}
LowTie n (Some t) = t.outgoing < n

-- a channel gets this tie, or none
pub record Changes (n k : ℕ) (v : Option Tie) (s s' : List ℕ) : Type 0 where
  pub changes : k < n → LowTie n v → Listed n s → TiedAs n (with (ties_says n s) k v) s'
  pub numbers : Keeps 0 2 n s s'

-- the ties that were made through a channel are dropped
pub record Drops (n ch : ℕ) (s s' : List ℕ) : Type 0 where
  pub drops : Listed n s → TiedAs n (dropped ch (ties_says n s)) s'
  pub numbers : Keeps 0 2 n s s'

-- the handle that a channel is tied to, where there is a place for each of n channels
abbrev pub FindsTied : ℕ → List ℕ → ℕ → Option ℕ → Type 0
FindsTied n s k r = Covers n s → r ≡ handle_of (ties_says n s k)
