-- `put_ushort`: the code and the number are one number of three bytes.
-- Assumes nothing.
use borrow.Author.Rules.{rules}
use Rattle.serializer.proofs.Laws.{put_ushort_is}
use Rattle.serializer.proofs.put_ushort.Goals as goal

ruleset steps = (put_ushort_is, rules)

pub overflow_add-n : goal.overflow_add-n
overflow_add-n c = search steps

pub put_number-requires : goal.put_number-requires
put_number-requires c = search steps

pub shape_of-out : goal.shape_of-out
shape_of-out c = search steps

pub returns : goal.returns
returns c = search steps
