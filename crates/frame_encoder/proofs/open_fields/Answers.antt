-- `open_fields`: four fields, or five with an idle-time-out.
-- Assumes nothing.
use borrow.Author.Rules.{rules}
use Rattle.frame_encoder.proofs.Steps.{open_never, open_millis}
use Rattle.frame_encoder.proofs.open_fields.Goals as goal

ruleset steps = (open_never, open_millis, rules)

pub returns-in-None : goal.returns-in-None
returns-in-None c = search steps

pub returns-in-Some : goal.returns-in-Some
returns-in-Some c = search steps
