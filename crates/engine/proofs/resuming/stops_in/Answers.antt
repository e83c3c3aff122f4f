-- `stops_in`: by the outcome.
-- Assumes nothing.
use borrow.Author.Rules.{rules}
use Rattle.engine.proofs.Phases.{stops_as, stops_anywhere, stops_end}
use Rattle.engine.proofs.resuming.stops_in.Goals as goal

pub returns-in-Fine : goal.returns-in-Fine
returns-in-Fine c = search (stops_as, rules)

pub returns-in-TransportError : goal.returns-in-TransportError
returns-in-TransportError c = search (stops_anywhere, rules)

pub returns-in-IllegalState : goal.returns-in-IllegalState
returns-in-IllegalState c = search (stops_as, rules)

pub returns-in-NotFound : goal.returns-in-NotFound
returns-in-NotFound c = search (stops_end, rules)

pub returns-in-NotImplemented : goal.returns-in-NotImplemented
returns-in-NotImplemented c = search (stops_end, rules)

pub returns-in-RemoteClosed : goal.returns-in-RemoteClosed
returns-in-RemoteClosed c = search (stops_end, rules)

pub returns-in-RemoteClosedWithError : goal.returns-in-RemoteClosedWithError
returns-in-RemoteClosedWithError c = search (stops_end, rules)
