-- `on_incoming_session`: what the endpoint does.
-- Assumes nothing.
use borrow.Author.Rules.{rules}
use Rattle.connection.proofs.Reading.{session_routed}
use Rattle.connection.proofs.Connection.on_incoming_session.Goals as goal

pub returns : goal.returns
returns c = search (session_routed, rules)
