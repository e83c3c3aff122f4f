-- `put_frame_header`: the eight bytes are one number.
-- Assumes nothing.
use borrow.Author.Rules.{rules}
use Rattle.frame_encoder.proofs.Steps.{header_laid}
use Rattle.frame_encoder.proofs.put_frame_header.Goals as goal

ruleset steps = (header_laid, rules)

pub overflow_mul-size : goal.overflow_mul-size
overflow_mul-size c = search steps

pub overflow_add-size : goal.overflow_add-size
overflow_add-size c = search steps

pub overflow_add-size-2 : goal.overflow_add-size-2
overflow_add-size-2 c = search steps

pub put_number-requires : goal.put_number-requires
put_number-requires c = search steps

pub shape_of-out : goal.shape_of-out
shape_of-out c = search steps

pub returns : goal.returns
returns c = search steps
