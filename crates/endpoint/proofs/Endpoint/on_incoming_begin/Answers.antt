-- `endpoint::Endpoint::on_incoming_begin` meets its contract: a law for each of the three returns.
-- Assumes nothing.
use borrow.Author.Rules.{rules}
use Rattle.endpoint.proofs.Receiving.{names_none, names_unknown, tied}
use Rattle.endpoint.proofs.Endpoint.on_incoming_begin.Goals as goal

ruleset steps = (names_none, names_unknown, tied, rules)

pub returns-in_default : goal.returns-in_default
returns-in_default c = search steps

pub returns-in_default-handle_at : goal.returns-in_default-handle_at
returns-in_default-handle_at c = search steps

pub returns : goal.returns
returns c = search steps
