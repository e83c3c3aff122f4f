-- `endpoint::Endpoint::new` meets its contract: the tables are cleared of ties, and the limits are the least.
-- Assumes nothing.
use borrow.Author.Rules.{rules}
use Rattle.endpoint.proofs.Opening.{made, cleared}
use Rattle.endpoint.proofs.Endpoint.new.Goals as goal

ruleset steps = (made, cleared, rules)

pub returns : goal.returns
returns c = search steps
