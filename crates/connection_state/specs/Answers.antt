-- What the values of the crate's types stand for.
-- Assumes nothing: these are definitions.
use Rattle.std.specs.Prelude.{Option, None, Some}
use Rattle.octets.specs.Verdict.{Verdict, refuse, accept}
use Rattle.connection_state.specs.States.{State}
use Rattle.connection_state.specs.States as M
use Rattle.connection_state.specs.declared.ConnectionState.{ConnectionState}
use Rattle.connection_state.specs.declared.ConnectionState.TheVariants.{Start, HeaderReceived, HeaderSent, HeaderExchange, OpenPipe, OpenClosePipe, OpenReceived, OpenSent, ClosePipe, Opened, CloseReceived, CloseSent, Discarding, End}

abbrev pub state_says : ConnectionState → State
state_says Start = M.Start
state_says HeaderReceived = M.HeaderReceived
state_says HeaderSent = M.HeaderSent
state_says HeaderExchange = M.HeaderExchange
state_says OpenPipe = M.OpenPipe
state_says OpenClosePipe = M.OpenClosePipe
state_says OpenReceived = M.OpenReceived
state_says OpenSent = M.OpenSent
state_says ClosePipe = M.ClosePipe
state_says Opened = M.Opened
state_says CloseReceived = M.CloseReceived
state_says CloseSent = M.CloseSent
state_says Discarding = M.Discarding
state_says End = M.End

-- a move that is illegal is 20
abbrev pub moved_says : Option ConnectionState → Verdict State
moved_says (Some s) = accept (state_says s)
moved_says None = refuse 20

abbrev pub numbered_says : Option ConnectionState → Option State
numbered_says (Some s) = Some (state_says s)
numbered_says None = None
