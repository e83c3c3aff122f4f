-- `described_list`: a short one at once, and any other by `any_described`.
-- Assumes nothing.
use native.Mathlib.Omega.{arith}
use borrow.Author.Rules.{rules}
use Rattle.performatives.proofs.Short.{short_room, short_described}
use Rattle.performatives.proofs.described_list.Goals as goal

ruleset steps = (short_room, short_described, rules)

pub is_short-requires : goal.is_short-requires
is_short-requires c = search steps

pub bounds-s-4 : goal.bounds-s-4
bounds-s-4 c = omega (arith, short_room _ _ c.is_short.ensures c.if-is_short.true)

pub wide-size-requires : goal.wide-size-requires
wide-size-requires c = search steps

pub overflow_sub-s : goal.overflow_sub-s
overflow_sub-s c = omega (arith, short_room _ _ c.is_short.ensures c.if-is_short.true)

pub bounds-s-2 : goal.bounds-s-2
bounds-s-2 c = search steps

pub wide-requires : goal.wide-requires
wide-requires c = search steps

pub bounds-s-5 : goal.bounds-s-5
bounds-s-5 c = search steps

pub wide-requires-then-size-s : goal.wide-requires-then-size-s
wide-requires-then-size-s c = search steps

pub overflow_cast-result : goal.overflow_cast-result
overflow_cast-result c = search steps

pub overflow_add-result : goal.overflow_add-result
overflow_add-result c = search steps

pub returns-then-size-s : goal.returns-then-size-s
returns-then-size-s c = search steps

pub any_described-requires : goal.any_described-requires
any_described-requires c = search steps

pub returns : goal.returns
returns c = search steps
