-- `sized`: the size, what it leaves, and the count.
-- Assumes nothing.
use borrow.Author.Rules.{rules}
use Rattle.performatives.proofs.Lists.{part_fits, sized_short, sized_over, sized_countless, sized_is}
use Rattle.performatives.proofs.composite.sized.Goals as goal

ruleset steps = (part_fits, sized_short, sized_over, sized_countless, sized_is, rules)

pub overflow_add-counted : goal.overflow_add-counted
overflow_add-counted c = search steps

pub returns-then-s-counted : goal.returns-then-s-counted
returns-then-s-counted c = search steps

pub slice_bounds-number-count : goal.slice_bounds-number-count
slice_bounds-number-count c = search steps

pub slice_bounds-number-start : goal.slice_bounds-number-start
slice_bounds-number-start c = search steps

pub slice_bounds-number-end : goal.slice_bounds-number-end
slice_bounds-number-end c = search steps

pub number-size-requires : goal.number-size-requires
number-size-requires c = search steps

pub overflow_sub-s : goal.overflow_sub-s
overflow_sub-s c = search steps

pub returns-then-s-counted-2 : goal.returns-then-s-counted-2
returns-then-s-counted-2 c = search steps

pub returns-then-size-w : goal.returns-then-size-w
returns-then-size-w c = search steps

pub overflow_add-from : goal.overflow_add-from
overflow_add-from c = search steps

pub slice_bounds-number-count-2 : goal.slice_bounds-number-count-2
slice_bounds-number-count-2 c = search steps

pub slice_bounds-number-start-2 : goal.slice_bounds-number-start-2
slice_bounds-number-start-2 c = search steps

pub slice_bounds-number-end-2 : goal.slice_bounds-number-end-2
slice_bounds-number-end-2 c = search steps

pub number-count-requires : goal.number-count-requires
number-count-requires c = search steps

pub overflow_cast-count : goal.overflow_cast-count
overflow_cast-count c = search steps

pub overflow_add-result : goal.overflow_add-result
overflow_add-result c = search steps

pub returns : goal.returns
returns c = search steps
