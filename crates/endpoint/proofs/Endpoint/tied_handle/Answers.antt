-- `endpoint::Endpoint::tied_handle` meets its contract: what is found among the ties.
-- Assumes nothing.
use borrow.Author.Rules.{rules}
use Rattle.endpoint.proofs.Limits.{tie_found}
use Rattle.endpoint.proofs.Endpoint.tied_handle.Goals as goal

ruleset steps = (tie_found, rules)

pub returns : goal.returns
returns c = search steps
