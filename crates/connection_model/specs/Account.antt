-- The account of a connection, exactly as document 01 reads it off ("The account"), with the outgoing channel of each tie (document 02, wish 7).
-- Assumes nothing: these are definitions.
use Rattle.std.specs.Prelude.{Bool, true, false, List, [], ◌∷◌, ℕ, Option, None, Some}
use Rattle.connection_state.specs.States.{State, OpenReceived, Opened, CloseReceived, is, is_one_of}
use Rattle.channels.specs.Numbers.{Map}
use Rattle.channels.specs.Ties.{Ties}
use Rattle.connection_model.specs.Connection.{Connection}

abbrev pub when : {A : Type 0} → Bool → A → Option A
when true a = Some a
when false a = None

-- the writing limit and the hand-out list count in these; within the list, none is "absent"
abbrev pub limits_show : State → Bool
limits_show x = is_one_of (OpenReceived ∷ Opened ∷ CloseReceived ∷ []) x

pub record Account : Type 0 where
  pub state : State
  pub reading_limit : ℕ
  pub taken : Map
  pub writing_limit : Option ℕ
  pub hand_out : Option (Option (List ℕ))
  pub ties : Option Ties

abbrev pub account : Connection → Account
account c = record {
  state = c.state;
  reading_limit = c.reading_limit;
  taken = c.taken;
  writing_limit = when (limits_show c.state) c.writing_limit;
  hand_out = when (limits_show c.state) c.hand_out;
  ties = when (is Opened c.state) c.ties;
}
