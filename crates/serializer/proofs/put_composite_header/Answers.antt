-- `put_composite_header`: by the three forms of a list.
-- Assumes nothing.
use borrow.Author.Rules.{rules}
use Rattle.octets.proofs.Laws.{put_past}
use Rattle.serializer.proofs.Laws.{put_header_none, put_header_small, header_over, put_header_large}
use Rattle.serializer.proofs.put_composite_header.Goals as goal

ruleset steps = (put_header_none, put_header_small, header_over, put_header_large, put_past, rules)

pub overflow_add-head : goal.overflow_add-head
overflow_add-head c = search steps

pub overflow_mul-head : goal.overflow_mul-head
overflow_mul-head c = search steps

pub overflow_add-head-then-count-eq0 : goal.overflow_add-head-then-count-eq0
overflow_add-head-then-count-eq0 c = search steps

pub put_number-requires : goal.put_number-requires
put_number-requires c = search steps

pub shape_of-out-then-count-eq0 : goal.shape_of-out-then-count-eq0
shape_of-out-then-count-eq0 c = search steps

pub returns-then-count-eq0 : goal.returns-then-count-eq0
returns-then-count-eq0 c = search steps

pub overflow_mul-sized : goal.overflow_mul-sized
overflow_mul-sized c = search steps

pub overflow_add-sized : goal.overflow_add-sized
overflow_add-sized c = search steps

pub overflow_mul-sized-then-size-le254 : goal.overflow_mul-sized-then-size-le254
overflow_mul-sized-then-size-le254 c = search steps

pub overflow_add-sized-then-size-le254 : goal.overflow_add-sized-then-size-le254
overflow_add-sized-then-size-le254 c = search steps

pub overflow_add-sized-then-size-le254-2 : goal.overflow_add-sized-then-size-le254-2
overflow_add-sized-then-size-le254-2 c = search steps

pub overflow_mul-sized-then-size-le254-2 : goal.overflow_mul-sized-then-size-le254-2
overflow_mul-sized-then-size-le254-2 c = search steps

pub overflow_add-sized-then-size-le254-3 : goal.overflow_add-sized-then-size-le254-3
overflow_add-sized-then-size-le254-3 c = search steps

pub put_number-requires-then-size-le254 : goal.put_number-requires-then-size-le254
put_number-requires-then-size-le254 c = search steps

pub shape_of-out-then-size-le254 : goal.shape_of-out-then-size-le254
shape_of-out-then-size-le254 c = search steps

pub returns-then-size-le254 : goal.returns-then-size-le254
returns-then-size-le254 c = search steps

pub returns-then-out-at : goal.returns-then-out-at
returns-then-out-at c = search steps

pub overflow_sub-out : goal.overflow_sub-out
overflow_sub-out c = search steps

pub returns-then-out-at-lt12 : goal.returns-then-out-at-lt12
returns-then-out-at-lt12 c = search steps

pub overflow_mul-head-2 : goal.overflow_mul-head-2
overflow_mul-head-2 c = search steps

pub overflow_add-head-2 : goal.overflow_add-head-2
overflow_add-head-2 c = search steps

pub put_number-requires-2 : goal.put_number-requires-2
put_number-requires-2 c = search steps

pub overflow_add-at : goal.overflow_add-at
overflow_add-at c = search steps

pub overflow_add-size : goal.overflow_add-size
overflow_add-size c = search steps

pub put_number-requires-3 : goal.put_number-requires-3
put_number-requires-3 c = search steps

pub overflow_add-at-2 : goal.overflow_add-at-2
overflow_add-at-2 c = search steps

pub put_number-requires-4 : goal.put_number-requires-4
put_number-requires-4 c = search steps

pub shape_of-out : goal.shape_of-out
shape_of-out c = search steps

pub returns : goal.returns
returns c = search steps
