-- What passes between the private functions that send a session's frame. No public promise speaks of these.
-- Assumes nothing: these are definitions.
use Rattle.std.specs.Prelude.{◌≡◌, List, ◌∷◌, ℕ, ◌<◌, Option, Some, Result, Ok}
use Rattle.octets.specs.Verdict.{Verdict, and_then}
use Rattle.octets.specs.declared.Refusal.{Refusal}
use Rattle.connection_state.specs.States.{State}
use Rattle.connection_model.specs.Connection.{Effect, Outcome, apply, writes, tied_by}
use Rattle.endpoint.specs.declared.Endpoint.{Endpoint}
use Rattle.endpoint.specs.declared.OutgoingTie.{OutgoingTie}
use Rattle.endpoint.specs.Answers.{Whole, whole, places_of, settings_of, role_of, taken_of, view_as, tie_says, tied_says}
use Rattle.endpoint.specs.Promises.{Sound, Same}

-- a channel that is tied is one of those that the peer may use, and so is the one through which it is tied, where the tables are sound
pub record Low (e : Endpoint) (t : List ℕ) (tie : Option OutgoingTie) : Type 0 where
  pub low : (to : OutgoingTie) → tie ≡ Some to → to.incoming < places_of e
  pub through_low : (to : OutgoingTie) → tie ≡ Some to → (id : List ℕ) → Sound (whole e t id) → to.outgoing < places_of e

-- which tie a frame asks for: its channel, and the remote-channel that it names. No other channel is tied, whatever stands in the tables
pub record AsksTie (w : Whole) (channel : ℕ) (named : List ℕ) (tie : Result (Option OutgoingTie) Refusal) : Type 0 where
  pub asks : Sound w → tied_says tie ≡ tied_by (role_of w) named channel (taken_of w channel)
  pub only_named : (to : OutgoingTie) → tie ≡ Ok (Some to) → (rest : List ℕ) × (named ≡ to.incoming ∷ rest)
  pub of_channels : (to : OutgoingTie) → tie ≡ Ok (Some to) → Sound w → to.outgoing < places_of w.endpoint

-- the second is the first once the tie is made
pub record Ties (before : Whole) (tie : Option OutgoingTie) (later : Whole) : Type 0 where
  pub ties : Sound before → (x : State) → view_as x later ≡ apply (settings_of before) (tie_says tie) (view_as x before)
  pub ties_sound : Sound before → Sound later
  pub ties_same : Same before later

-- what the writing comes to: its refusal, or the bytes with a tie as their effect
unfoldable pub writes_with : Effect → Verdict (List ℕ) → Verdict Outcome
writes_with e v = and_then v (λ bytes. writes bytes e)
