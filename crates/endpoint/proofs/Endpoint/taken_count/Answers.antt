-- `endpoint::Endpoint::taken_count` meets its contract: the numbers are counted up to the channel-max that the peer was told.
-- Assumes nothing.
use borrow.Author.Rules.{rules}
use Rattle.endpoint.proofs.Limits.{sessions_counted}
use Rattle.endpoint.proofs.Endpoint.taken_count.Goals as goal

ruleset steps = (sessions_counted, rules)

pub returns : goal.returns
returns c = search steps
