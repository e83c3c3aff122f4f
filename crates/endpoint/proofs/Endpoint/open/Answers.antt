-- `endpoint::Endpoint::open` meets its contract: the limits and the channel-max are what the two ends said.
-- Assumes nothing.
use borrow.Author.Rules.{rules}
use Rattle.endpoint.proofs.Opening.{agreed}
use Rattle.endpoint.proofs.Endpoint.open.Goals as goal

ruleset steps = (agreed, rules)

pub returns : goal.returns
returns c = search steps
