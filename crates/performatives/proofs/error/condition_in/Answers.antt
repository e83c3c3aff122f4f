-- `condition_in`: missing, null, or an error, which is a whole value that ends with the fields.
-- Assumes nothing.
use borrow.Author.Rules.{rules}
use Rattle.performatives.proofs.Placed.{error_missing, last_within, no_error, error_fits, error_given, error_there}
use Rattle.performatives.proofs.error.condition_in.Goals as goal

ruleset steps = (error_missing, last_within, no_error, error_fits, error_there, rules)

pub returns-then-count-i : goal.returns-then-count-i
returns-then-count-i c = error_missing _ _ _ _ _ c.requires c.if-count-i.true

pub slice_bounds-f-count : goal.slice_bounds-f-count
slice_bounds-f-count c = last_within _ _ _ _ _ c.requires c.if-count-i.false

pub slice_bounds-f-start : goal.slice_bounds-f-start
slice_bounds-f-start c = last_within _ _ _ _ _ c.requires c.if-count-i.false

pub slice_bounds-f-end : goal.slice_bounds-f-end
slice_bounds-f-end c = search steps

pub is_null-requires : goal.is_null-requires
is_null-requires c = search steps

pub returns-then-is_null : goal.returns-then-is_null
returns-then-is_null c = search steps

pub overflow_add-from : goal.overflow_add-from
overflow_add-from c = search steps

pub error_condition-requires : goal.error_condition-requires
error_condition-requires c =
    error_given _ _ _ _ _ c.requires c.if-count-i.false _ c.is_null.ensures c.if-is_null.false

pub returns : goal.returns
returns c = search steps
