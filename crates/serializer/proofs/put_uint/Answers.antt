-- `put_uint`: by the three forms of a uint.
-- Assumes nothing.
use borrow.Author.Rules.{rules}
use Rattle.serializer.proofs.Laws.{put_uint_none, put_uint_small, put_uint_large}
use Rattle.serializer.proofs.put_uint.Goals as goal

ruleset steps = (put_uint_none, put_uint_small, put_uint_large, rules)

pub put_number-requires : goal.put_number-requires
put_number-requires c = search steps

pub shape_of-out-then-n-eq0 : goal.shape_of-out-then-n-eq0
shape_of-out-then-n-eq0 c = search steps

pub returns-then-n-eq0 : goal.returns-then-n-eq0
returns-then-n-eq0 c = search steps

pub overflow_add-n : goal.overflow_add-n
overflow_add-n c = search steps

pub put_number-requires-then-n-le255 : goal.put_number-requires-then-n-le255
put_number-requires-then-n-le255 c = search steps

pub shape_of-out-then-n-le255 : goal.shape_of-out-then-n-le255
shape_of-out-then-n-le255 c = search steps

pub returns-then-n-le255 : goal.returns-then-n-le255
returns-then-n-le255 c = search steps

pub overflow_add-n-2 : goal.overflow_add-n-2
overflow_add-n-2 c = search steps

pub put_number-requires-2 : goal.put_number-requires-2
put_number-requires-2 c = search steps

pub shape_of-out : goal.shape_of-out
shape_of-out c = search steps

pub returns : goal.returns
returns c = search steps
