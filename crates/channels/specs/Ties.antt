-- Ties (document 02, wish 7): what an incoming channel is tied to, and which ties are left once an outgoing channel is freed.
-- Assumes nothing: these are definitions.
use Rattle.std.specs.Prelude.{Bool, false, cond, ℕ, eqb, Option, None, Some}
use Rattle.channels.specs.Numbers.{MapTo}

-- the outgoing channel through which the tie was made, and the handle that held it
pub record Tie : Type 0 where
  pub outgoing : ℕ
  pub handle : ℕ

abbrev pub tie_of : ℕ → ℕ → Tie
tie_of ch h = record { outgoing = ch; handle = h }

-- incoming channels to ties, for those that are tied
abbrev pub Ties : Type 0
Ties = MapTo Tie

abbrev pub handle_of : Option Tie → Option ℕ
handle_of None = None
handle_of (Some t) = Some t.handle

abbrev pub through : ℕ → Option Tie → Bool
through ch None = false
through ch (Some t) = eqb t.outgoing ch

-- the ties that are left: all but those that were made through a channel
abbrev pub dropped : ℕ → Ties → Ties
dropped ch ties n = cond (through ch (ties n)) None (ties n)
