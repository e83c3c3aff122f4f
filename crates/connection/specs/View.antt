-- What a connection stands for in its definition, with what it is lent, and what the answers of its calls say.
-- Assumes nothing: these are definitions.
use Rattle.std.specs.Prelude.{true, ◌≡◌, List, ℕ, Result, Ok, Err}
use Rattle.octets.specs.Verdict.{Verdict, refuse, accept}
use Rattle.octets.specs.Refusal.{number_of}
use Rattle.octets.specs.declared.Refusal.{Refusal}
use Rattle.frame_encoder.specs.Frames.{Settings}
use Rattle.connection_model.specs.Connection as M
use Rattle.connection_model.specs.Connection.{Answer, header, other_protocol, wrote, stop}
use Rattle.connection_model.specs.Sound.{Reached}
use Rattle.connection_state.specs.Answers.{state_says}
use Rattle.local_open.specs.Settings.{allowed}
use Rattle.endpoint.specs.Answers as E
use Rattle.endpoint.specs.Promises as P
use Rattle.connection.specs.declared.Connection.{Connection}
use Rattle.connection.specs.declared.HeaderAnswer.{HeaderAnswer}
use Rattle.connection.specs.declared.HeaderAnswer.TheVariants.{Amqp, OtherProtocol}
use Rattle.connection.specs.declared.TickAnswer.{TickAnswer}
use Rattle.connection.specs.declared.TickAnswer.TheVariants.{Wrote, Stop}

-- a connection with what it is lent: its tables, and the container-id of its settings
pub record Whole : Type 0 where
  pub connection : Connection
  pub tables : List ℕ
  pub id : List ℕ

abbrev pub whole : Connection → List ℕ → List ℕ → Whole
whole c t id = record { connection = c; tables = t; id = id }

abbrev pub endpoint_in : Whole → E.Whole
endpoint_in w = E.whole w.connection.endpoint w.tables w.id

abbrev pub role_of : Whole → M.Role
role_of w = E.role_of (endpoint_in w)

abbrev pub settings_of : Whole → Settings
settings_of w = E.settings_of (endpoint_in w)

abbrev pub view_of : Whole → M.Connection
view_of w = E.view_as (state_says w.connection.local_state) (endpoint_in w)

-- a connection that can come of calls while nobody else writes what it is lent: its settings are within their limits, its tables have a place for each channel, lists that agree with the ties and numbers that keep their rule,
-- and what holds of every connection holds of it
pub record Sound (w : Whole) : Type 0 where
  pub fine : allowed (settings_of w) ≡ true
  pub held : P.Sound (endpoint_in w)
  pub reached : Reached (settings_of w) (view_of w)

-- ---- answers

abbrev pub header_says : Result HeaderAnswer Refusal → Verdict Answer
header_says (Ok (Amqp n)) = accept (header n)
header_says (Ok (OtherProtocol n)) = accept (other_protocol n)
header_says (Err e) = refuse (number_of e)

abbrev pub freed_says : Result ℕ Refusal → Verdict Answer
freed_says (Ok h) = accept (M.freed h)
freed_says (Err e) = refuse (number_of e)

abbrev pub tick_says : Result TickAnswer Refusal → Verdict Answer
tick_says (Ok (Wrote n)) = accept (wrote n)
tick_says (Ok Stop) = accept stop
tick_says (Err e) = refuse (number_of e)
