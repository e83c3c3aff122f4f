-- `is_error`: each test of an error, in order.
-- Assumes nothing.
use borrow.Author.Rules.{rules}
use Rattle.performatives.proofs.Typed.{error_not, items_ordered, items_inside, error_other, error_none, error_many, error_is}
use Rattle.performatives.proofs.error.is_error.Goals as goal

ruleset steps = (error_not, items_ordered, items_inside, error_other, error_none, error_many, rules)

pub any_described-requires : goal.any_described-requires
any_described-requires c = search steps

pub returns-in_default : goal.returns-in_default
returns-in_default c = search steps

pub returns-then-list-ne29 : goal.returns-then-list-ne29
returns-then-list-ne29 c = search steps

pub returns-then-list-lt1 : goal.returns-then-list-lt1
returns-then-list-lt1 c = search steps

pub returns-then-list-gt3 : goal.returns-then-list-gt3
returns-then-list-gt3 c = search steps

pub slice_bounds-starts_with-count : goal.slice_bounds-starts_with-count
slice_bounds-starts_with-count c = search steps

pub slice_bounds-starts_with-start : goal.slice_bounds-starts_with-start
slice_bounds-starts_with-start c = search steps

pub slice_bounds-starts_with-end : goal.slice_bounds-starts_with-end
slice_bounds-starts_with-end c = search steps

pub starts_with-requires : goal.starts_with-requires
starts_with-requires c = search steps

pub returns : goal.returns
returns c = error_is _ _ _ _ _ c.in-Some.ensures c.if-list-ne29.false (search steps) _ (search steps) c.starts_with.ensures
