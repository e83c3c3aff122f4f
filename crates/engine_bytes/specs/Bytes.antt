-- The bytes of an engine, which C lends as one slice: a fixed part of 300 bytes, numbers big-endian, and after it the tables (crates/channels/specs/Places.antt), 28 bytes for each channel from 0 to channel-max.
--      0  4  "HSP2", which names this layout       16  1  phase: 0 running, 1 awaiting, 2 stopped       32  4  the channel freed last
--      4  1  role: 0 dialler, 1 listener           17  1  outcome, kept or final; 0 while running       36  4  how many channels are free that were handed out
--      5  1  whether there is an idle-time-out     18  1  state, by its number                          40  2  the agreed channel-max
--      6  2  channel-max                           19  1  whether a channel-max is agreed               42  2  the container-id's length
--      8  4  max-frame-size                        20  4  reading limit                                 44  256  room for the container-id
--     12  4  idle-time-out                         24  4  writing limit                                300  the tables
--                                                  28  4  how many channels were ever handed out
-- Assumes nothing: these are definitions.
use Rattle.std.specs.Prelude.{◌≡◌, Bool, true, false, cond, List, [], ◌∷◌, ◌++◌, ℕ, suc, ◌+◌, ◌*◌, leb, eqb, length, take, drop, Option, None, Some}
use Rattle.octets.specs.Octets.{big_endian, bytes_of}
use Rattle.octets.specs.Verdict.{Verdict, refuse, accept, require, and_then}
use Rattle.frame_encoder.specs.Frames.{Settings}
use Rattle.connection_state.specs.States.{State, numbered, with_number}
use Rattle.connection_model.specs.Connection.{Role, dialler, listener, connection}
use Rattle.connection_model.specs.Sound.{Reached}
use Rattle.channels.specs.Numbers.{one}
use Rattle.channels.specs.Places.{covers}
use Rattle.channels.specs.Channels.{counts, counts_ok, agreed_says, hand_out_says, taken_says}
use Rattle.channels.specs.Lists.{ties_says, Listed}
use Rattle.channels.specs.declared.OutgoingChannels.{OutgoingChannels}
use Rattle.layout.specs.Layout.{held}
use Rattle.local_open.specs.Settings.{checked}
use Rattle.endpoint.specs.Promises.{limits_ok}
use Rattle.engine_model.specs.Engine.{Outcome, fine, transport_error, illegal_state, not_found, not_implemented, remote_closed, remote_closed_with_error, Phase, running, awaiting, stopped, Engine}
use Rattle.engine_model.specs.Phases.{goes_with}

-- ---- numbers for roles, outcomes and phases

abbrev pub role_number : Role → ℕ
role_number dialler = 0
role_number listener = 1

abbrev pub role_with : ℕ → Option Role
role_with n = cond (eqb n 0) (Some dialler) (cond (eqb n 1) (Some listener) None)

abbrev pub outcome_number : Outcome → ℕ
outcome_number fine = 0
outcome_number transport_error = 1
outcome_number illegal_state = 2
outcome_number not_found = 3
outcome_number not_implemented = 4
outcome_number remote_closed = 5
outcome_number remote_closed_with_error = 6

abbrev pub outcome_in : List Outcome → ℕ → Option Outcome
outcome_in [] n = None
outcome_in (o ∷ os) n = cond (eqb n (outcome_number o)) (Some o) (outcome_in os n)

unfoldable pub outcome_with : ℕ → Option Outcome
outcome_with n = outcome_in (fine ∷ transport_error ∷ illegal_state ∷ not_found ∷ not_implemented ∷ remote_closed ∷ remote_closed_with_error ∷ []) n

abbrev pub phase_bytes : Phase → List ℕ
phase_bytes running = 0 ∷ 0 ∷ []
phase_bytes (awaiting o) = 1 ∷ outcome_number o ∷ []
phase_bytes (stopped o) = 2 ∷ outcome_number o ∷ []

abbrev pub in_phase : (Outcome → Phase) → Option Outcome → Option Phase
in_phase p None = None
in_phase p (Some o) = Some (p o)

unfoldable pub phase_with : ℕ → ℕ → Option Phase
phase_with p o =
    cond (eqb p 0) (cond (eqb o 0) (Some running) None)
    (cond (eqb p 1) (in_phase awaiting (outcome_with o))
    (cond (eqb p 2) (in_phase stopped (outcome_with o)) None))

-- a flag: 0 is no and 1 is yes
abbrev pub flag_with : ℕ → Option Bool
flag_with n = cond (eqb n 0) (Some false) (cond (eqb n 1) (Some true) None)

-- ---- the fixed part

abbrev pub fixed_size : ℕ
fixed_size = 300

pub record Fixed : Type 0 where
  pub role : Role
  pub settings : Settings
  pub phase : Phase
  pub state : State
  pub reading_limit : ℕ
  pub writing_limit : ℕ
  pub numbers : OutgoingChannels

-- the number in w bytes from a place on
abbrev pub at : ℕ → ℕ → List ℕ → ℕ
at i w s = big_endian (take w (drop i s))

abbrev pub version : List ℕ
version = 0x48 ∷ 0x53 ∷ 0x50 ∷ 0x32 ∷ []

abbrev pub id_at : List ℕ → List ℕ
id_at s = take (at 42 2 s) (drop 44 s)

abbrev pub tables_at : List ℕ → List ℕ
tables_at s = drop fixed_size s

-- what no engine has is broken: 8
abbrev pub or_broken : {A : Type 0} → Option A → Verdict A
or_broken None = refuse 8
or_broken (Some a) = accept a

-- the settings, within their limits
unfoldable pub settings_at : List ℕ → Verdict Settings
settings_at s =
    and_then (or_broken (flag_with (at 5 1 s))) (λ idle.
    checked (record { container_id = id_at s; max_frame_size = at 8 4 s; channel_max = at 6 2 s; idle_time_out = held idle (at 12 4 s) }))

-- the counts of the channel numbers, within their limits
unfoldable pub numbers_at : List ℕ → Verdict OutgoingChannels
numbers_at s =
    and_then (or_broken (flag_with (at 19 1 s))) (λ agreed.
    require 8 (counts_ok (counts agreed (at 40 2 s) (at 28 4 s) (at 32 4 s) (at 36 4 s))) (λ _.
    accept (counts agreed (at 40 2 s) (at 28 4 s) (at 32 4 s) (at 36 4 s))))

-- what the rest says in a role, a phase and a state, or 8: tables with a place for each channel, of which only their length is judged, limits and numbers that calls can lead to, and a phase that goes with the state
unfoldable pub rest_at : Role → Phase → State → List ℕ → Verdict Fixed
rest_at role phase x s =
    and_then (settings_at s) (λ S.
    and_then (numbers_at s) (λ numbers.
    require 8 (covers (suc S.channel_max) (tables_at s)) (λ _.
    require 8 (limits_ok S x (at 20 4 s) (at 24 4 s) (agreed_says numbers)) (λ _.
    require 8 (goes_with phase x) (λ _.
    accept (record { role = role; settings = S; phase = phase; state = x; reading_limit = at 20 4 s; writing_limit = at 24 4 s; numbers = numbers }))))))

-- what the fixed part says, or 8
unfoldable pub fixed_at : List ℕ → Verdict Fixed
fixed_at s =
    require 8 (leb fixed_size (length s)) (λ _.
    require 8 (eqb (at 0 4 s) (big_endian version)) (λ _.
    and_then (or_broken (role_with (at 4 1 s))) (λ role.
    and_then (or_broken (phase_with (at 16 1 s) (at 17 1 s))) (λ phase.
    and_then (or_broken (with_number (at 18 1 s))) (λ x.
    rest_at role phase x s)))))

-- the engine that a fixed part and tables say
abbrev pub engine_in : Fixed → List ℕ → Engine
engine_in f t = record {
  phase = f.phase;
  connection =
      connection f.state f.reading_limit f.writing_limit (agreed_says f.numbers) (hand_out_says f.numbers t) (taken_says f.numbers t)
      (ties_says (suc f.settings.channel_max) t);
}

-- bytes that stand for an engine that calls can lead to, with lists that agree with its ties
pub record StandFor (s : List ℕ) (role : Role) (S : Settings) (e : Engine) : Type 0 where
  pub fixed : Fixed
  pub reads : fixed_at s ≡ accept fixed
  pub role_is : fixed.role ≡ role
  pub settings_is : fixed.settings ≡ S
  pub engine_is : engine_in fixed (tables_at s) ≡ e
  pub listed : Listed (suc fixed.settings.channel_max) (tables_at s)
  pub reached : Reached S e.connection

-- ---- as it is laid

-- from 28 on: the counts
abbrev pub number_bytes : OutgoingChannels → List ℕ
number_bytes n = bytes_of 4 n.used ++ (bytes_of 4 n.head ++ (bytes_of 4 n.freed ++ bytes_of 2 n.highest))

-- from 16 on: what calls can change
unfoldable pub moving_bytes : Fixed → List ℕ
moving_bytes f =
    phase_bytes f.phase ++ (bytes_of 1 (numbered f.state) ++ (bytes_of 1 (one f.numbers.opened) ++ (bytes_of 4 f.reading_limit ++ (bytes_of 4 f.writing_limit
    ++ number_bytes f.numbers))))

abbrev pub idle_number : Option ℕ → ℕ
idle_number None = 0
idle_number (Some n) = n

abbrev pub is_there : Option ℕ → ℕ
is_there None = 0
is_there (Some n) = 1

-- from 0 on: what no call changes, but for the container-id
unfoldable pub setting_bytes : Fixed → List ℕ
setting_bytes f =
    version ++ (bytes_of 1 (role_number f.role) ++ (bytes_of 1 (is_there f.settings.idle_time_out) ++ (bytes_of 2 f.settings.channel_max ++ (bytes_of 4 f.settings.max_frame_size
    ++ bytes_of 4 (idle_number f.settings.idle_time_out)))))

-- from 0 on: all of it
unfoldable pub fixed_bytes : Fixed → List ℕ
fixed_bytes f = setting_bytes f ++ (moving_bytes f ++ (bytes_of 2 (length f.settings.container_id) ++ f.settings.container_id))

-- how many bytes the state of an engine has at least
abbrev pub state_size : ℕ → ℕ
state_size channel_max = fixed_size + 28 * suc channel_max
