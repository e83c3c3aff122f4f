-- `error_fields`: one field, or two with a description.
-- Assumes nothing.
use borrow.Author.Rules.{rules}
use Rattle.frame_encoder.proofs.Steps.{fields_two, fields_one}
use Rattle.frame_encoder.proofs.error_fields.Goals as goal

ruleset steps = (fields_two, fields_one, rules)

pub returns-in-None : goal.returns-in-None
returns-in-None c = search steps

pub returns-in-Some : goal.returns-in-Some
returns-in-Some c = search steps
