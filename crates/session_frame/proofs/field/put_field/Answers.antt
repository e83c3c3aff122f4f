-- `put_field`: null is written as the default.
-- Assumes nothing.
use Rattle.session_frame.proofs.Types.{sized_some, some_room, null_put, some_put, size_next, size_fits}
use borrow.Author.Rules.{rules}
use Rattle.session_frame.proofs.field.put_field.Goals as goal

ruleset steps = (sized_some, some_room, null_put, some_put, size_next, size_fits, rules)

pub field_size-requires : goal.field_size-requires
field_size-requires c = search steps

pub overflow_add-next : goal.overflow_add-next
overflow_add-next c = search steps

pub is_null-requires : goal.is_null-requires
is_null-requires c = search steps

pub put_default-requires : goal.put_default-requires
put_default-requires c = search steps

pub shape_of-out-then-is_null : goal.shape_of-out-then-is_null
shape_of-out-then-is_null c = search steps

pub returns-then-is_null : goal.returns-then-is_null
returns-then-is_null c = search steps

pub put_shortest-requires : goal.put_shortest-requires
put_shortest-requires c = search steps

pub shape_of-out : goal.shape_of-out
shape_of-out c = search steps

pub returns : goal.returns
returns c = search steps
