-- `number_in`: null, or the bytes after the format code.
-- Assumes nothing.
use borrow.Author.Rules.{rules}
use Rattle.performatives.proofs.Numbers.{between_none, between_there, between_null, between_number}
use Rattle.performatives.proofs.values_of.number_in.Goals as goal

ruleset steps = (between_none, between_there, between_null, between_number, rules)

pub returns-then-end-at : goal.returns-then-end-at
returns-then-end-at c = search steps

pub bounds-s-at : goal.bounds-s-at
bounds-s-at c = search steps

pub returns-then-s-at-eq64 : goal.returns-then-s-at-eq64
returns-then-s-at-eq64 c = search steps

pub overflow_add-at : goal.overflow_add-at
overflow_add-at c = search steps

pub slice_bounds-number-count : goal.slice_bounds-number-count
slice_bounds-number-count c = search steps

pub slice_bounds-number-start : goal.slice_bounds-number-start
slice_bounds-number-start c = search steps

pub slice_bounds-number-end : goal.slice_bounds-number-end
slice_bounds-number-end c = search steps

pub number-requires : goal.number-requires
number-requires c = search steps

pub returns : goal.returns
returns c = search steps
