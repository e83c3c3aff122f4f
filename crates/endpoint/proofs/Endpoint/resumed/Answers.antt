-- `endpoint::Endpoint::resumed` meets its contract: the container-id is no part of the test.
-- Assumes nothing.
use borrow.Author.Rules.{rules}
use Rattle.endpoint.proofs.Limits.{resumed_is}
use Rattle.endpoint.proofs.Endpoint.resumed.Goals as goal

pub returns : goal.returns
returns c = search (resumed_is, rules)
