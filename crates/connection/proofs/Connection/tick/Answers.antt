-- `tick`: what the heartbeat does.
-- Assumes nothing.
use borrow.Author.Rules.{rules}
use Rattle.connection.proofs.Writing.{beats_does}
use Rattle.connection.proofs.Connection.tick.Goals as goal

pub returns : goal.returns
returns c = search (beats_does, rules)
