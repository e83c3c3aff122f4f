-- What a C caller is told: numbers in the bytes that it lends for answers, big-endian.
-- Assumes nothing: these are definitions.
use Rattle.std.specs.Prelude.{Bool, true, false, not, List, [], ◌∷◌, ◌++◌, ℕ, suc, eqb, Option, None, Some}
use Rattle.octets.specs.Octets.{bytes_of}
use Rattle.octets.specs.Verdict.{Verdict, refuse, accept}
use Rattle.layout.specs.Layout.{may, held}
use Rattle.frame_encoder.specs.Frames.{Settings, ErrorText}
use Rattle.connection_state.specs.States.{numbered}
use Rattle.channels.specs.Numbers.{one, taken_below}
use Rattle.channels.specs.Ties.{handle_of}
use Rattle.connection_model.specs.Connection.{Role, Answer, wrote, stop, header, other_protocol, nothing_to_do, opened, closed, forward, began, channel, freed}
use Rattle.engine_model.specs.Engine.{Outcome, Reply, Engine}
use Rattle.engine_bytes.specs.Bytes.{role_number, outcome_number, phase_bytes}

-- a flag: 0 is no, anything else is yes
abbrev pub flagged : ℕ → Bool
flagged k = not (eqb k 0)

-- settings as they are handed over
abbrev pub settings_of : List ℕ → ℕ → ℕ → ℕ → ℕ → Settings
settings_of id size highest has idle = record { container_id = id; max_frame_size = size; channel_max = highest; idle_time_out = held (flagged has) idle }

-- a description, if its flag says that there is one
abbrev pub given : Bool → List ℕ → Option (List ℕ)
given true d = Some d
given false d = None

-- the text of an error as it is handed over
abbrev pub error_of : List ℕ → ℕ → List ℕ → ErrorText
error_of condition has description = record { condition = condition; description = given (flagged has) description }

-- ---- the answer of an event, 42 bytes
--     1  whether the engine stopped        1  what the connection's call answered: its kind     8  where the body starts
--     1  the outcome; 0 while it goes on   1  a refusal, a performative's code, or an error     8  the body's length
--                                          2  a channel                                         8  bytes consumed
--                                          4  a handle, or the peer's idle-time-out             8  bytes written

-- what the connection's call inside answered; what a kind does not have is zero
pub record Inner : Type 0 where
  pub kind : ℕ
  pub detail : ℕ
  pub channel : ℕ
  pub number : ℕ
  pub from : ℕ
  pub len : ℕ

abbrev pub inner : ℕ → ℕ → ℕ → ℕ → ℕ → ℕ → Inner
inner kind detail ch number from len = record { kind = kind; detail = detail; channel = ch; number = number; from = from; len = len }

abbrev pub answer_inner : Answer → Inner
answer_inner (wrote n) = inner 2 0 0 0 0 0
answer_inner stop = inner 3 0 0 0 0 0
answer_inner (header n) = inner 4 0 0 0 0 0
answer_inner (other_protocol n) = inner 5 0 0 0 0 0
answer_inner (nothing_to_do n) = inner 6 0 0 0 0 0
answer_inner (opened n idle) = inner 7 0 0 idle 0 0
answer_inner (closed n error) = inner 8 (one error) 0 0 0 0
answer_inner (forward n code h from len) = inner 9 code 0 h from len
answer_inner (began n ch h from len) = inner 10 17 ch h from len
answer_inner (channel ch) = inner 11 0 ch 0 0 0
answer_inner (freed h) = inner 12 0 0 h 0 0

-- 0 where there was no call, 1 for a refusal
abbrev pub inner_of : Option (Verdict Answer) → Inner
inner_of None = inner 0 0 0 0 0 0
inner_of (Some (refuse k)) = inner 1 k 0 0 0 0
inner_of (Some (accept a)) = answer_inner a

unfoldable pub inner_bytes : Inner → List ℕ
inner_bytes i = bytes_of 1 i.kind ++ (bytes_of 1 i.detail ++ (bytes_of 2 i.channel ++ (bytes_of 4 i.number ++ (bytes_of 8 i.from ++ bytes_of 8 i.len))))

abbrev pub ended_bytes : Option Outcome → List ℕ
ended_bytes None = 0 ∷ 0 ∷ []
ended_bytes (Some o) = 1 ∷ outcome_number o ∷ []

unfoldable pub reply_bytes : Reply → List ℕ
reply_bytes r = ended_bytes r.ended ++ (inner_bytes (inner_of r.inner) ++ (bytes_of 8 r.consumed ++ bytes_of 8 r.written))

-- ---- what an engine is, 19 bytes
--     1  role    1  phase    1  outcome    1  state    4  reading limit    4  writing limit    3  whether a channel-max is agreed, and which    4  how many channels are taken

unfoldable pub status_bytes : Role → Settings → Engine → List ℕ
status_bytes role S e =
    bytes_of 1 (role_number role) ++ (phase_bytes e.phase ++ (bytes_of 1 (numbered e.connection.state) ++ (bytes_of 4 e.connection.reading_limit ++ (bytes_of 4 e.connection.writing_limit
    ++ (may 2 e.connection.agreed_max ++ bytes_of 4 (taken_below (suc S.channel_max) e.connection.taken))))))

-- ---- the handle at a channel, 5 bytes: whether there is one, and which

unfoldable pub taken_bytes : ℕ → Role → Settings → Engine → List ℕ
taken_bytes ch role S e = may 4 (e.connection.taken ch)

unfoldable pub tied_bytes : ℕ → Role → Settings → Engine → List ℕ
tied_bytes ch role S e = may 4 (handle_of (e.connection.ties ch))
