-- `error_condition`: the first value of the list of the error, which is whole as the error is.
-- Assumes nothing.
use borrow.Author.Rules.{rules}
use Rattle.performatives.proofs.Typed.{items_ordered, items_inside}
use Rattle.performatives.proofs.Placed.{condition_none, place_fits, text_given, condition_some}
use Rattle.performatives.proofs.error.error_condition.Goals as goal

ruleset steps = (items_ordered, items_inside, condition_none, place_fits, rules)

pub any_described-requires : goal.any_described-requires
any_described-requires c = search steps

pub returns-in_err-list : goal.returns-in_err-list
returns-in_err-list c = search steps

pub slice_bounds-text-count : goal.slice_bounds-text-count
slice_bounds-text-count c = search steps

pub slice_bounds-text-start : goal.slice_bounds-text-start
slice_bounds-text-start c = search steps

pub slice_bounds-text-end : goal.slice_bounds-text-end
slice_bounds-text-end c = search steps

pub overflow_add-at : goal.overflow_add-at
overflow_add-at c = search steps

pub text-requires : goal.text-requires
text-requires c =
    text_given _ _ _ _ _ _ c.in_ok-list.ensures c.requires

pub returns : goal.returns
returns c = condition_some _ _ _ _ _ _ c.in_ok-list.ensures _ c.text.ensures
