-- `endpoint::Endpoint::pass_on` meets its contract: a law for each of the two returns.
-- Assumes nothing.
use borrow.Author.Rules.{rules}
use Rattle.endpoint.proofs.Receiving.{not_passed, passed}
use Rattle.endpoint.proofs.Endpoint.pass_on.Goals as goal

ruleset steps = (not_passed, passed, rules)

pub returns-in_default : goal.returns-in_default
returns-in_default c = search steps

pub returns : goal.returns
returns c = search steps
