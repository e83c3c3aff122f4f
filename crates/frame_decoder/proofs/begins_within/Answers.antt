-- `begins_within`: one law for each answer.
-- Assumes nothing.
use borrow.Author.Rules.{rules}
use Rattle.frame_decoder.proofs.Steps.{begins_not, begins_none, begins_at}
use Rattle.frame_decoder.proofs.begins_within.Goals as goal

ruleset steps = (begins_not, begins_none, begins_at, rules)

pub enum_known-performative : goal.enum_known-performative
enum_known-performative c = search steps

pub returns-in_default : goal.returns-in_default
returns-in_default c = search steps

pub returns-in_default-remote : goal.returns-in_default-remote
returns-in_default-remote c = search steps

pub returns : goal.returns
returns c = search steps
