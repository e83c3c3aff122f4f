-- `receive_header`: 20, and what the connection does.
-- Assumes nothing.
use borrow.Author.Rules.{rules}
use Rattle.engine.proofs.Openings.{received_20, header_received}
use Rattle.engine.proofs.ConnectionEngine.receive_header.Goals as goal

pub returns-then-is_ending : goal.returns-then-is_ending
returns-then-is_ending c = search (received_20, rules)

pub returns : goal.returns
returns c = search (header_received, rules)
