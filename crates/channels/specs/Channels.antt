-- The outgoing channel numbers: what the counts and the lent tables stand for, and what each call promises.
-- Assumes nothing: these are definitions.
use Rattle.std.specs.Prelude.{◌≡◌, Bool, true, false, cond, ◌&&◌, List, [], ◌∷◌, ◌++◌, ℕ, zero, suc, ◌-◌, ◌≤◌, leb, ltb, eqb, length, Option, None, Some, Result, Ok, Err}
use Rattle.octets.specs.Verdict.{Verdict, refuse, accept}
use Rattle.octets.specs.Refusal.{judged}
use Rattle.octets.specs.declared.Refusal.{Refusal}
use Rattle.octets.specs.declared.Refusal.TheVariants.{NotOpened, NoChannelLeft}
use Rattle.channels.specs.Places.{Covers, field, Keeps}
use Rattle.channels.specs.Numbers.{Map, with, up_from, freed_first, Shared}
use Rattle.channels.specs.declared.OutgoingChannels.{OutgoingChannels}
use Rattle.channels.specs.declared.Allocation.{Allocation}
use Rattle.channels.specs.declared.Deallocation.{Deallocation}

-- ---- answers

-- the number that allocating gives
abbrev pub next_of : Option (List ℕ) → Verdict ℕ
next_of None = refuse 21
next_of (Some []) = refuse 23
next_of (Some (ch ∷ rest)) = accept ch

-- ---- what counts and tables stand for

abbrev pub counts : Bool → ℕ → ℕ → ℕ → ℕ → OutgoingChannels
counts opened highest used head freed = record { opened = opened; highest = highest; used = used; head = head; freed = freed }

-- counts within their limits: the number freed last was handed out before, and is 0 where none is free that was; before the peer's Open all are 0
unfoldable pub counts_ok : OutgoingChannels → Bool
counts_ok t =
    cond t.opened (leb t.freed t.used && (leb t.used (suc t.highest) && cond (eqb t.freed 0) (eqb t.head 0) (ltb t.head t.used)))
    (eqb t.highest 0 && (eqb t.used 0 && (eqb t.head 0 && eqb t.freed 0)))

-- n numbers from k on, by the links
unfoldable pub chain : List ℕ → ℕ → ℕ → List ℕ
chain s k zero = []
chain s k (suc n) = k ∷ chain s (field s k 0) n

-- the free numbers: those freed, latest first, and those never handed out
abbrev pub free : OutgoingChannels → List ℕ → List ℕ
free t s = chain s t.head t.freed ++ up_from t.used (suc t.highest - t.used)

unfoldable pub agreed_says : OutgoingChannels → Option ℕ
agreed_says t = cond t.opened (Some t.highest) None

unfoldable pub hand_out_says : OutgoingChannels → List ℕ → Option (List ℕ)
hand_out_says t s = cond t.opened (Some (free t s)) None

-- a number that was handed out is taken where its link says so
unfoldable pub taken_says : OutgoingChannels → List ℕ → Map
taken_says t s k = cond (ltb k t.used) (cond (eqb (field s k 0) 65536) (Some (field s k 1)) None) None

-- the tables have a place for each number; the free numbers and the taken ones are together 0 to the agreed channel-max, each once
pub record Sound (t : OutgoingChannels) (s : List ℕ) : Type 0 where
  pub within : counts_ok t ≡ true
  pub covered : Covers (suc t.highest) s
  pub shared : Shared (agreed_says t) (hand_out_says t s) (taken_says t s)

-- ---- what the calls promise

-- nothing is agreed, and nothing is taken
abbrev pub unopened : OutgoingChannels
unopened = counts false 0 0 0 0

-- counts that were kept, if they are within their limits
abbrev pub resumed_as : OutgoingChannels → Option OutgoingChannels
resumed_as kept = cond (counts_ok kept) (Some kept) None

-- the peer's Open: the numbers from 0 on are free, in this order. Once it has come, a second one changes nothing
abbrev pub opened_to : ℕ → OutgoingChannels → OutgoingChannels
opened_to highest t = cond t.opened t (counts true highest 0 0 0)

-- what the numbers are after one was taken or freed: the same agreed channel-max, this list, and this map
pub record Becomes (self r : OutgoingChannels) (s' : List ℕ) (list : Option (List ℕ)) (map : Map) : Type 0 where
  pub agreed : agreed_says r ≡ agreed_says self
  pub hand_out_is : hand_out_says r s' ≡ list
  pub taken : taken_says r s' ≡ map
  pub sound : Sound r s'

-- what allocating may answer in any tables: a number, or the refusals 21 and 23
abbrev pub MayAllocate : Result ℕ Refusal → Type 0
MayAllocate (Ok ch) = Unit {0}
MayAllocate (Err NotOpened) = Unit {0}
MayAllocate (Err NoChannelLeft) = Unit {0}
MayAllocate (Err e) = ⊥

pub record Allocates (self : OutgoingChannels) (s : List ℕ) (handle : ℕ) (r : Allocation) (s' : List ℕ) : Type 0 where
  pub answers : Sound self s → judged r.answer ≡ next_of (hand_out_says self s)
  pub keeps :
      Sound self s → (ch : ℕ) (rest : List ℕ) → hand_out_says self s ≡ Some (ch ∷ rest)
      → Becomes self r.channels s' (Some rest) (with (taken_says self s) ch (Some handle))
  pub refused : (k : ℕ) → judged r.answer ≡ refuse k → (r.channels ≡ self) × (s' ≡ s)
  pub may : MayAllocate r.answer
  pub within : counts_ok self ≡ true → counts_ok r.channels ≡ true
  pub same_highest : r.channels.highest ≡ self.highest
  pub ties : Keeps 2 7 (suc self.highest) s s'

pub record Frees (self : OutgoingChannels) (s : List ℕ) (channel : ℕ) (r : Deallocation) (s' : List ℕ) : Type 0 where
  pub answers : Sound self s → r.answer ≡ taken_says self s channel
  pub keeps :
      Sound self s → (h : ℕ) → taken_says self s channel ≡ Some h
      → Becomes self r.channels s' (freed_first channel (hand_out_says self s)) (with (taken_says self s) channel None)
  pub refused : r.answer ≡ None → (r.channels ≡ self) × (s' ≡ s)
  pub within : counts_ok self ≡ true → counts_ok r.channels ≡ true
  pub same_highest : r.channels.highest ≡ self.highest
  pub long : length s' ≡ length s
  pub ties : counts_ok self ≡ true → Keeps 2 7 (suc self.highest) s s'

-- a number that was never handed out is not taken, whatever the tables hold
pub record Finds (self : OutgoingChannels) (s : List ℕ) (channel : ℕ) (r : Option ℕ) : Type 0 where
  pub finds : Sound self s → r ≡ taken_says self s channel
  pub unused : self.used ≤ channel → r ≡ None
