-- `field_size`: null is written as the default.
-- Assumes nothing.
use Rattle.session_frame.proofs.Types.{not_null, sized_some, null_size, some_size}
use borrow.Author.Rules.{rules}
use Rattle.session_frame.proofs.field.field_size.Goals as goal

ruleset steps = (not_null, sized_some, null_size, some_size, rules)

pub is_null-requires : goal.is_null-requires
is_null-requires c = search steps

pub default_size-requires : goal.default_size-requires
default_size-requires c = search steps

pub returns-then-is_null : goal.returns-then-is_null
returns-then-is_null c = search steps

pub shortest_size-requires : goal.shortest_size-requires
shortest_size-requires c = search steps

pub returns : goal.returns
returns c = search steps
