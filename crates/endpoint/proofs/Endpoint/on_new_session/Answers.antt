-- `endpoint::Endpoint::on_new_session` meets its contract: a law for each of the three returns.
-- Assumes nothing.
use borrow.Author.Rules.{rules}
use Rattle.endpoint.proofs.Receiving.{dialled, not_allocated, taken_and_tied}
use Rattle.endpoint.proofs.Endpoint.on_new_session.Goals as goal

ruleset steps = (dialled, not_allocated, taken_and_tied, rules)

pub returns-in_default : goal.returns-in_default
returns-in_default c = search steps

pub returns-in_default-answer : goal.returns-in_default-answer
returns-in_default-answer c = search steps

pub returns : goal.returns
returns c = search steps
