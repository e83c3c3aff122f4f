-- `put_null`: one byte.
-- Assumes nothing.
use Rattle.session_frame.proofs.Steps.{null_laid}
use borrow.Author.Rules.{rules}
use Rattle.session_frame.proofs.field.put_null.Goals as goal

ruleset steps = (null_laid, rules)

pub put_number-requires : goal.put_number-requires
put_number-requires c = search steps

pub shape_of-out : goal.shape_of-out
shape_of-out c = search steps

pub returns : goal.returns
returns c = search steps
