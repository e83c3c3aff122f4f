-- What the calls of an endpoint promise.
-- Assumes nothing: these are definitions.
use Rattle.std.specs.Prelude.{◌≡◌, Bool, true, cond, not, ◌&&◌, List, [], ℕ, suc, min, ◌≤◌, leb, eqb, length, Option, None, Some}
use Rattle.octets.specs.Verdict.{Verdict, refuse}
use Rattle.octets.specs.Output.{laid}
use Rattle.frame_encoder.specs.Frames.{Settings}
use Rattle.connection_state.specs.States.{State, is_one_of, before_open, after_open}
use Rattle.connection_model.specs.Connection.{Answer, Outcome, clamped, answered, after, written}
use Rattle.channels.specs.Places.{past}
use Rattle.channels.specs.Lists.{Listed}
use Rattle.channels.specs.Channels as N
use Rattle.channels.specs.Channels.{agreed_says, counts_ok, unopened, opened_to}
use Rattle.channels.specs.declared.OutgoingChannels.{OutgoingChannels}
use Rattle.local_open.specs.declared.LocalOpen.{LocalOpen}
use Rattle.local_open.specs.Settings.{open_says}
use Rattle.endpoint.specs.declared.Role.{Role}
use Rattle.endpoint.specs.declared.Endpoint.{Endpoint}
use Rattle.endpoint.specs.Answers.{Whole, whole, role_of, settings_of, places_of, view_as}

-- ---- what holds of an endpoint and its tables while nobody else writes these

-- a place for each channel, with lists that agree with the ties, an agreed channel-max that is not above the local one, and numbers that keep their rule
pub record Sound (w : Whole) : Type 0 where
  pub listed : Listed (places_of w.endpoint) w.tables
  pub most : suc w.endpoint.outgoing.highest ≤ places_of w.endpoint
  pub numbers : N.Sound w.endpoint.outgoing w.tables

-- what every endpoint has, whatever stands in its tables: counts within their limits, and an agreed channel-max that is not above the local one
abbrev pub Counted : Endpoint → Type 0
Counted e = (counts_ok e.outgoing ≡ true) × (suc e.outgoing.highest ≤ places_of e)

-- role, settings and the tables' length stay, and so does what stands after the places
pub record Same (before after : Whole) : Type 0 where
  pub same_role : role_of after ≡ role_of before
  pub same_settings : settings_of after ≡ settings_of before
  pub same_long : length after.tables ≡ length before.tables
  pub same_past : Counted before.endpoint → past (places_of before.endpoint) after.tables ≡ past (places_of before.endpoint) before.tables
  pub still_counted : Counted before.endpoint → Counted after.endpoint

-- a call does what the rule has it do, whatever the state: it answers a, and leaves the second where the first was. A refusal changes nothing, whatever stands in the tables
pub record Step (rule : Verdict Outcome) (before : Whole) (a : Verdict Answer) (later : Whole) : Type 0 where
  pub says : Sound before → a ≡ answered rule
  pub leaves : Sound before → (x : State) → view_as x later ≡ after (settings_of before) rule (view_as x before)
  pub sound : Sound before → Sound later
  pub same : Same before later
  pub refused : (k : ℕ) → a ≡ refuse k → later ≡ before

-- the same with whatever container-id
abbrev pub Steps : (Whole → Verdict Outcome) → Endpoint → List ℕ → Verdict Answer → Endpoint → List ℕ → Type 0
Steps rule e t a e' t' = (id : List ℕ) → Step (rule (whole e t id)) (whole e t id) a (whole e' t' id)

-- the same with lent output
pub record Send (rule : Verdict Outcome) (before : Whole) (a : Verdict Answer) (later : Whole) (out out' : List ℕ) : Type 0 where
  pub step : Step rule before a later
  pub output : Sound before → out' ≡ laid (written rule) out
  pub output_refused : (k : ℕ) → a ≡ refuse k → out' ≡ out

abbrev pub Sends : (Whole → Verdict Outcome) → Endpoint → List ℕ → Verdict Answer → Endpoint → List ℕ → List ℕ → List ℕ → Type 0
Sends rule e t a e' t' out out' = (id : List ℕ) → Send (rule (whole e t id)) (whole e t id) a (whole e' t' id) out out'

-- ---- a new endpoint, and one that was kept

abbrev pub endpoint_of : Role → LocalOpen → ℕ → ℕ → OutgoingChannels → Endpoint
endpoint_of role local reading writing outgoing = record { role = role; local_open = local; reading_limit = reading; writing_limit = writing; outgoing = outgoing }

abbrev pub new_endpoint : Role → LocalOpen → Endpoint
new_endpoint role local = endpoint_of role local 512 512 unopened

-- once the peer's Open has come with a max-frame-size and a channel-max
abbrev pub agreed_with : ℕ → ℕ → Endpoint → Endpoint
agreed_with size most e =
    endpoint_of e.role e.local_open e.local_open.max_frame_size (clamped size) (opened_to (min e.local_open.channel_max most) e.outgoing)

-- whether calls can lead to these limits and this agreed channel-max in a state: without the peer's Open all is as at first
unfoldable pub limits_ok : Settings → State → ℕ → ℕ → Option ℕ → Bool
limits_ok S x reading writing None = not (is_one_of after_open x) && (eqb reading 512 && eqb writing 512)
limits_ok S x reading writing (Some m) =
    not (is_one_of before_open x) && (leb m S.channel_max && (eqb reading S.max_frame_size && (leb 512 writing && leb writing 16384)))

abbrev pub resumed_as : State → Endpoint → Option Endpoint
resumed_as x e = cond (limits_ok (open_says [] e.local_open) x e.reading_limit e.writing_limit (agreed_says e.outgoing)) (Some e) None
