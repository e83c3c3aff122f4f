-- `write_close`: the refusals in their order, and then the write.
-- Assumes nothing.
use borrow.Author.Rules.{rules}
use Rattle.frame_encoder.proofs.Steps.{plain_9, plain_27, plain_wrote}
use Rattle.frame_encoder.proofs.write_close.Goals as goal

ruleset steps = (plain_9, plain_27, plain_wrote, rules)

pub returns-then-out-lt16384 : goal.returns-then-out-lt16384
returns-then-out-lt16384 c = search steps

pub returns-then-limit-lt12 : goal.returns-then-limit-lt12
returns-then-limit-lt12 c = search steps

pub put_start-requires : goal.put_start-requires
put_start-requires c = search steps

pub shape_of-out : goal.shape_of-out
shape_of-out c = search steps

pub returns : goal.returns
returns c = search steps
