-- `endpoint::Endpoint::outgoing_tie` meets its contract: a law for each of the five returns.
-- Assumes nothing.
use borrow.Author.Rules.{rules}
use Rattle.endpoint.proofs.Sending.{tie_dialler, tie_other, tie_unnamed, tie_not, tie_to_lem}
use Rattle.endpoint.proofs.Endpoint.outgoing_tie.Goals as goal

ruleset steps = (tie_dialler, tie_other, tie_unnamed, tie_not, tie_to_lem, rules)

pub returns-in-Dialler : goal.returns-in-Dialler
returns-in-Dialler c = search steps

pub returns-in_default-performative : goal.returns-in_default-performative
returns-in_default-performative c = search steps

pub returns-in_default-remote : goal.returns-in_default-remote
returns-in_default-remote c = search steps

pub returns-in_default-handle_at : goal.returns-in_default-handle_at
returns-in_default-handle_at c = search steps

pub returns : goal.returns
returns c = search steps
