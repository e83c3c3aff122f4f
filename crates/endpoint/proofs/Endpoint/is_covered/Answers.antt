-- `endpoint::Endpoint::is_covered` meets its contract: the places of the channel-max that the peer was told.
-- Assumes nothing.
use borrow.Author.Rules.{rules}
use Rattle.endpoint.proofs.Limits.{covered_told}
use Rattle.endpoint.proofs.Endpoint.is_covered.Goals as goal

ruleset steps = (covered_told, rules)

pub returns : goal.returns
returns c = search steps
