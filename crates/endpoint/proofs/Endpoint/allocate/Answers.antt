-- `endpoint::Endpoint::allocate` meets its contract: what the table gave is what the definition gives.
-- Assumes nothing.
use borrow.Author.Rules.{rules}
use Rattle.endpoint.proofs.Receiving.{allocated}
use Rattle.endpoint.proofs.Endpoint.allocate.Goals as goal

ruleset steps = (allocated, rules)

pub returns : goal.returns
returns c = search steps
