-- `outgoing_error`: the arm for all the others.
-- Assumes nothing.
use borrow.Author.Rules.{rules}
use Rattle.engine.proofs.Refusals.{leads_transport}
use Rattle.engine.proofs.error.outgoing_error.Goals as goal

pub returns-in_default : goal.returns-in_default
returns-in_default c = search (leads_transport, rules)
