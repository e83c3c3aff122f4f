-- `endpoint::Endpoint::make_tie` meets its contract: no tie, or one of the channels that the peer may use.
-- Assumes nothing.
use borrow.Author.Rules.{rules}
use Rattle.endpoint.proofs.Sending.{tied_not, tied_to}
use Rattle.endpoint.proofs.Endpoint.make_tie.Goals as goal

ruleset steps = (tied_not, tied_to, rules)

pub returns-in_default : goal.returns-in_default
returns-in_default c = search steps

pub returns : goal.returns
returns c = search steps
