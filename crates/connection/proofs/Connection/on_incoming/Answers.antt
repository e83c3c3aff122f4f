-- `on_incoming`: Close, discarding, Open, and a session's frame.
-- Assumes nothing.
use borrow.Author.Rules.{rules}
use Rattle.connection.proofs.Reading.{by_close, by_discarding, by_open, by_session}
use Rattle.connection.proofs.Connection.on_incoming.Goals as goal

pub returns-in-Close : goal.returns-in-Close
returns-in-Close c = search (by_close, rules)

pub returns-then-is_discarding : goal.returns-then-is_discarding
returns-then-is_discarding c = search (by_discarding, rules)

pub returns-in-Open : goal.returns-in-Open
returns-in-Open c = search (by_open, rules)

pub returns : goal.returns
returns c = search (by_session, rules)
