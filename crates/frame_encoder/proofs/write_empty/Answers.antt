-- `write_empty`: the refusals in their order, and then the write.
-- Assumes nothing.
use borrow.Author.Rules.{rules}
use Rattle.frame_encoder.proofs.Steps.{empty_9, empty_27, empty_wrote}
use Rattle.frame_encoder.proofs.write_empty.Goals as goal

ruleset steps = (empty_9, empty_27, empty_wrote, rules)

pub returns-then-out-lt16384 : goal.returns-then-out-lt16384
returns-then-out-lt16384 c = search steps

pub returns-then-limit-lt8 : goal.returns-then-limit-lt8
returns-then-limit-lt8 c = search steps

pub put_frame_header-requires : goal.put_frame_header-requires
put_frame_header-requires c = search steps

pub shape_of-out : goal.shape_of-out
shape_of-out c = search steps

pub returns : goal.returns
returns c = search steps
