-- What the values of an endpoint stand for in the definition of a connection.
-- Assumes nothing: these are definitions.
use Rattle.std.specs.Prelude.{List, ℕ, suc, Option, None, Some, Result, Ok, Err}
use Rattle.octets.specs.Verdict.{Verdict, refuse, accept}
use Rattle.octets.specs.Refusal.{number_of}
use Rattle.octets.specs.declared.Refusal.{Refusal}
use Rattle.frame_decoder.specs.Frame.{Frame}
use Rattle.frame_encoder.specs.Frames.{Settings}
use Rattle.connection_state.specs.States.{State}
use Rattle.connection_model.specs.Connection as M
use Rattle.connection_model.specs.Connection.{Answer, connection, wrote, nothing_to_do, opened, closed, forward, began, channel, freed}
use Rattle.channels.specs.Numbers.{Map}
use Rattle.channels.specs.Ties.{tie_of, Ties}
use Rattle.channels.specs.Channels.{agreed_says, hand_out_says, taken_says}
use Rattle.channels.specs.Lists.{ties_says}
use Rattle.local_open.specs.Settings.{open_says}
use Rattle.endpoint.specs.declared.Role.{Role}
use Rattle.endpoint.specs.declared.Role.TheVariants.{Dialler, Listener}
use Rattle.endpoint.specs.declared.Endpoint.{Endpoint}
use Rattle.endpoint.specs.declared.Incoming.{Incoming}
use Rattle.endpoint.specs.declared.FrameAnswer.{FrameAnswer}
use Rattle.endpoint.specs.declared.FrameAnswer.TheVariants.{NothingToDo, Opened, Closed, Forward, Began}
use Rattle.endpoint.specs.declared.OutgoingTie.{OutgoingTie}

-- ---- an endpoint, with what it is lent: its tables, and the container-id of its settings

pub record Whole : Type 0 where
  pub endpoint : Endpoint
  pub tables : List ℕ
  pub id : List ℕ

abbrev pub whole : Endpoint → List ℕ → List ℕ → Whole
whole e t id = record { endpoint = e; tables = t; id = id }

abbrev pub role_says : Role → M.Role
role_says Dialler = M.dialler
role_says Listener = M.listener

abbrev pub role_of : Whole → M.Role
role_of w = role_says w.endpoint.role

abbrev pub settings_of : Whole → Settings
settings_of w = open_says w.id w.endpoint.local_open

-- how many places its tables must have: one for each channel that its peer may use
abbrev pub places_of : Endpoint → ℕ
places_of e = suc e.local_open.channel_max

abbrev pub hand_out_of : Whole → Option (List ℕ)
hand_out_of w = hand_out_says w.endpoint.outgoing w.tables

abbrev pub taken_of : Whole → Map
taken_of w = taken_says w.endpoint.outgoing w.tables

abbrev pub ties_of : Whole → Ties
ties_of w = ties_says (places_of w.endpoint) w.tables

-- the connection in a state
abbrev pub view_as : State → Whole → M.Connection
view_as x w = connection x w.endpoint.reading_limit w.endpoint.writing_limit (agreed_says w.endpoint.outgoing) (hand_out_of w) (taken_of w) (ties_of w)

abbrev pub frame_of : Incoming → Frame
frame_of i = record { size = i.size; channel = i.channel; from = i.from }

-- ---- answers

abbrev pub came_says : FrameAnswer → Answer
came_says (NothingToDo n) = nothing_to_do n
came_says (Opened n idle) = opened n idle
came_says (Closed n error) = closed n error
came_says (Forward n code h from len) = forward n code h from len
came_says (Began n ch h from len) = began n ch h from len

abbrev pub answer_says : Result FrameAnswer Refusal → Verdict Answer
answer_says (Ok a) = accept (came_says a)
answer_says (Err e) = refuse (number_of e)

abbrev pub sent_says : Result ℕ Refusal → Verdict Answer
sent_says (Ok n) = accept (wrote n)
sent_says (Err e) = refuse (number_of e)

abbrev pub allocate_says : Result ℕ Refusal → Verdict Answer
allocate_says (Ok ch) = accept (channel ch)
allocate_says (Err e) = refuse (number_of e)

abbrev pub deallocate_says : Option ℕ → Verdict Answer
deallocate_says (Some h) = accept (freed h)
deallocate_says None = refuse 26

-- what a frame that goes out does to the ties
abbrev pub tie_says : Option OutgoingTie → M.Effect
tie_says None = M.stay
tie_says (Some t) = M.tie t.incoming (Some (tie_of t.outgoing t.handle))

abbrev pub tied_says : Result (Option OutgoingTie) Refusal → Verdict M.Effect
tied_says (Ok t) = accept (tie_says t)
tied_says (Err e) = refuse (number_of e)
