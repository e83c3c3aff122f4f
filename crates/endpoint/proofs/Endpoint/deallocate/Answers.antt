-- `endpoint::Endpoint::deallocate` meets its contract: a law for each return.
-- Assumes nothing.
use borrow.Author.Rules.{rules}
use Rattle.endpoint.proofs.Receiving.{not_deallocated, deallocated}
use Rattle.endpoint.proofs.Endpoint.deallocate.Goals as goal

ruleset steps = (not_deallocated, deallocated, rules)

pub returns-in_default : goal.returns-in_default
returns-in_default c = search steps

pub returns : goal.returns
returns c = search steps
