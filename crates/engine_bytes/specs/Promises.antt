-- What reading an engine from bytes and laying it promise.
-- Assumes nothing: these are definitions.
use Rattle.std.specs.Prelude.{List, ℕ, Option, None, Some}
use Rattle.octets.specs.Verdict.{Verdict, refuse, accept}
use Rattle.connection_model.specs.Connection.{Role}
use Rattle.connection_state.specs.Answers.{state_says}
use Rattle.local_open.specs.Settings.{open_says}
use Rattle.endpoint.specs.Answers.{role_says}
use Rattle.engine_model.specs.Engine as M
use Rattle.endpoint.specs.declared.Role.{Role as RoleOf}
use Rattle.engine.specs.declared.ConnectionEngine.{ConnectionEngine}
use Rattle.engine.specs.declared.Outcome.{Outcome}
use Rattle.engine.specs.declared.Phase.{Phase}
use Rattle.engine.specs.Answers.{outcome_says, phase_says}
use Rattle.engine_bytes.specs.Bytes.{Fixed}

-- what is fixed of an engine with its container-id
abbrev pub fixed_in : ConnectionEngine → List ℕ → Fixed
fixed_in e id = record {
  role = role_says e.connection.endpoint.role;
  settings = open_says id e.connection.endpoint.local_open;
  phase = phase_says e.phase;
  state = state_says e.connection.local_state;
  reading_limit = e.connection.endpoint.reading_limit;
  writing_limit = e.connection.endpoint.writing_limit;
  numbers = e.connection.endpoint.outgoing;
}

abbrev pub read_says : List ℕ → Option ConnectionEngine → Verdict Fixed
read_says id (Some e) = accept (fixed_in e id)
read_says id None = refuse 8

abbrev pub outcome_read : Option Outcome → Option M.Outcome
outcome_read (Some o) = Some (outcome_says o)
outcome_read None = None

abbrev pub phase_read : Option Phase → Option M.Phase
phase_read (Some p) = Some (phase_says p)
phase_read None = None

abbrev pub role_read : Option RoleOf → Option Role
role_read (Some r) = Some (role_says r)
role_read None = None
