-- `endpoint::Endpoint::write_tied` meets its contract: the refusals of writing, and the tie.
-- Assumes nothing.
use borrow.Author.Rules.{rules}
use Rattle.endpoint.proofs.Sending.{writes_not, writes_yes}
use Rattle.endpoint.proofs.Endpoint.write_tied.Goals as goal

ruleset steps = (writes_not, writes_yes, rules)

pub returns-in_default : goal.returns-in_default
returns-in_default c = search steps

pub returns : goal.returns
returns c = search steps
