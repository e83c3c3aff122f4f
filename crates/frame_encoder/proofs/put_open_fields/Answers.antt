-- `put_open_fields`: five writes, one after the other.
-- Assumes nothing.
use borrow.Author.Rules.{rules}
use Rattle.frame_encoder.proofs.Steps.{open_laid}
use Rattle.frame_encoder.proofs.put_open_fields.Goals as goal

ruleset steps = (open_laid, rules)

pub returns : goal.returns
returns c = search steps
