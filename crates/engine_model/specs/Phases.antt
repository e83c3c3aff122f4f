-- Which phases go with which states of the connection: an engine that events led to is in no others (proofs/Phases.antt), and each of these is met (proofs/Worked.antt).
-- Assumes nothing: these are definitions.
use Rattle.std.specs.Prelude.{Bool, true, false, not, ◌&&◌, List, [], ◌∷◌}
use Rattle.connection_state.specs.States.{State, Start, HeaderReceived, HeaderSent, HeaderExchange, OpenClosePipe, OpenReceived, ClosePipe, CloseReceived, CloseSent, Discarding, End, states, is, is_one_of}
use Rattle.engine_model.specs.Engine.{Outcome, fine, transport_error, illegal_state, not_found, not_implemented, remote_closed, remote_closed_with_error, Phase, running, awaiting, stopped}

-- the outcomes of errors that a Close tells the peer of
abbrev pub is_told : Outcome → Bool
is_told fine = false
is_told transport_error = false
is_told illegal_state = true
is_told not_found = true
is_told not_implemented = true
is_told remote_closed = false
is_told remote_closed_with_error = false

-- the states in which the peer's Close is awaited
abbrev pub awaits : State → Bool
awaits x = is_one_of (ClosePipe ∷ CloseSent ∷ Discarding ∷ []) x

-- the states in which an engine can stop with an outcome
abbrev pub stops_in : Outcome → List State
stops_in fine = ClosePipe ∷ Discarding ∷ End ∷ []
stops_in transport_error = states
stops_in illegal_state = Start ∷ HeaderReceived ∷ HeaderSent ∷ HeaderExchange ∷ OpenClosePipe ∷ OpenReceived ∷ ClosePipe ∷ CloseSent ∷ End ∷ []
stops_in not_found = End ∷ []
stops_in not_implemented = End ∷ []
stops_in remote_closed = End ∷ []
stops_in remote_closed_with_error = End ∷ []

-- a running engine is not in CloseReceived, since the event that reads a Close answers it
abbrev pub goes_with : Phase → State → Bool
goes_with running x = not (is CloseReceived x)
goes_with (awaiting o) x = is_told o && awaits x
goes_with (stopped o) x = is_one_of (stops_in o) x
