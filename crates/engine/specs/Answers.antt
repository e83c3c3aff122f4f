-- What an engine stands for in its definition, and what the answers of its events say.
-- Assumes nothing: these are definitions.
use Rattle.std.specs.Prelude.{◌≡◌, List, ℕ, Option, None, Some, Result, Ok, Err}
use Rattle.octets.specs.Verdict.{Verdict, refuse, accept}
use Rattle.octets.specs.Refusal.{number_of}
use Rattle.octets.specs.declared.Refusal.{Refusal}
use Rattle.frame_encoder.specs.Frames.{Settings}
use Rattle.connection_model.specs.Connection.{Role, Answer}
use Rattle.connection.specs.View as C
use Rattle.connection.specs.declared.Connection.{Connection}
use Rattle.connection.specs.declared.TickAnswer.{TickAnswer}
use Rattle.connection.specs.declared.TickAnswer.TheVariants.{Wrote, Stop as Idle}
use Rattle.engine_model.specs.Engine as M
use Rattle.engine_model.specs.Engine.{Reply, fine, transport_error, illegal_state, not_found, not_implemented, remote_closed, remote_closed_with_error, running, awaiting, stopped, fault, illegal}
use Rattle.engine_model.specs.Texts.{not_found_condition, not_implemented_condition, no_session, no_outgoing_channel, no_remote_session}
use Rattle.engine.specs.declared.Outcome.{Outcome}
use Rattle.engine.specs.declared.Outcome.TheVariants.{Fine, TransportError, IllegalState, NotFound, NotImplemented, RemoteClosed, RemoteClosedWithError}
use Rattle.engine.specs.declared.Phase.{Phase}
use Rattle.engine.specs.declared.Phase.TheVariants.{Running, Awaiting, Stopped}
use Rattle.engine.specs.declared.Running as R
use Rattle.engine.specs.declared.Running.TheVariants.{Continue, Stop}
use Rattle.engine.specs.declared.error.InnerError.{InnerError}
use Rattle.engine.specs.declared.error.InnerError.TheVariants.{TransportError as TransportFailed, IllegalState as StateIllegal, NotFound as Unknown, SessionNotFound, OutgoingChannelNotFound, NotImplemented as Missing, RemoteSession}
use Rattle.engine.specs.declared.ConnectionEngine.{ConnectionEngine}

abbrev pub outcome_says : Outcome → M.Outcome
outcome_says Fine = fine
outcome_says TransportError = transport_error
outcome_says IllegalState = illegal_state
outcome_says NotFound = not_found
outcome_says NotImplemented = not_implemented
outcome_says RemoteClosed = remote_closed
outcome_says RemoteClosedWithError = remote_closed_with_error

abbrev pub phase_says : Phase → M.Phase
phase_says Running = running
phase_says (Awaiting o) = awaiting (outcome_says o)
phase_says (Stopped o) = stopped (outcome_says o)

-- an engine with what it is lent: its tables, and the container-id of its settings
pub record Whole : Type 0 where
  pub engine : ConnectionEngine
  pub tables : List ℕ
  pub id : List ℕ

abbrev pub whole : ConnectionEngine → List ℕ → List ℕ → Whole
whole e t id = record { engine = e; tables = t; id = id }

-- an engine in a phase with a connection
abbrev pub engine_of : Phase → Connection → ConnectionEngine
engine_of p c = record { phase = p; connection = c }

abbrev pub connection_in : Whole → C.Whole
connection_in w = C.whole w.engine.connection w.tables w.id

abbrev pub role_of : Whole → Role
role_of w = C.role_of (connection_in w)

abbrev pub settings_of : Whole → Settings
settings_of w = C.settings_of (connection_in w)

abbrev pub view_of : Whole → M.Engine
view_of w = record { phase = phase_says w.engine.phase; connection = C.view_of (connection_in w) }

-- an engine is sound where its connection is
abbrev pub Sound : Whole → Type 0
Sound w = C.Sound (connection_in w)

-- ---- errors

-- a transport error tells the peer nothing
abbrev pub error_says : InnerError → Option M.Fault
error_says TransportFailed = None
error_says StateIllegal = Some illegal
error_says Unknown = Some (fault not_found not_found_condition None)
error_says SessionNotFound = Some (fault not_found not_found_condition (Some no_session))
error_says OutgoingChannelNotFound = Some (fault not_found not_found_condition (Some no_outgoing_channel))
error_says Missing = Some (fault not_implemented not_implemented_condition None)
error_says RemoteSession = Some (fault not_implemented not_implemented_condition (Some no_remote_session))

-- ---- answers

-- whether an engine in a phase goes on
abbrev pub goes_on : Phase → R.Running
goes_on Running = Continue
goes_on (Awaiting o) = Continue
goes_on (Stopped o) = Stop o

abbrev pub reply : Option M.Outcome → ℕ → ℕ → Option (Verdict Answer) → Verdict Reply
reply ended consumed written inner = accept (record { ended = ended; consumed = consumed; written = written; inner = inner })

-- whether it goes on, the bytes consumed and written, and what the connection's call inside answered
abbrev pub reply_says : Result R.Running Refusal → ℕ → ℕ → Option (Verdict Answer) → Verdict Reply
reply_says (Ok Continue) consumed written inner = reply None consumed written inner
reply_says (Ok (Stop o)) consumed written inner = reply (Some (outcome_says o)) consumed written inner
reply_says (Err e) consumed written inner = refuse (number_of e)

-- a refused event consumed and wrote nothing, and its answer is that refusal: P e says so of the refusal e
abbrev pub Bare : Result R.Running Refusal → ℕ → ℕ → (Refusal → Type 0) → Type 0
Bare (Ok r) consumed written P = Unit {0}
Bare (Err e) consumed written P = (consumed ≡ 0) × (written ≡ 0) × P e

-- a call that opens the connection goes on, whatever it answers; so many bytes were consumed
abbrev pub opening_says : ℕ → ℕ → Verdict Answer → Verdict Reply
opening_says consumed written (refuse k) = refuse k
opening_says consumed written (accept a) = reply None consumed written (Some (accept a))

-- how many bytes were written
abbrev pub sent_count : Result ℕ Refusal → ℕ
sent_count (Ok n) = n
sent_count (Err e) = 0

abbrev pub tick_count : Result TickAnswer Refusal → ℕ
tick_count (Ok (Wrote n)) = n
tick_count (Ok Idle) = 0
tick_count (Err e) = 0
