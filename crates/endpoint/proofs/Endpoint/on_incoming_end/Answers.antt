-- `endpoint::Endpoint::on_incoming_end` meets its contract: a law for each of the two returns.
-- Assumes nothing.
use borrow.Author.Rules.{rules}
use Rattle.endpoint.proofs.Receiving.{not_untied, untied}
use Rattle.endpoint.proofs.Endpoint.on_incoming_end.Goals as goal

ruleset steps = (not_untied, untied, rules)

pub returns-in_default : goal.returns-in_default
returns-in_default c = search steps

pub returns : goal.returns
returns c = search steps
