-- `endpoint::Endpoint::handle_at` meets its contract: what is found among the numbers.
-- Assumes nothing.
use borrow.Author.Rules.{rules}
use Rattle.endpoint.proofs.Limits.{handle_found}
use Rattle.endpoint.proofs.Endpoint.handle_at.Goals as goal

ruleset steps = (handle_found, rules)

pub returns : goal.returns
returns c = search steps
