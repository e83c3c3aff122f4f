-- `text`: by the format code, with a length of one byte or of four.
-- Assumes nothing.
use borrow.Author.Rules.{rules}
use Rattle.performatives.proofs.Placed.{short_some, short_fits, short_is, long_some, long_fits, long_is}
use Rattle.performatives.proofs.error.text.Goals as goal

ruleset steps = (short_some, short_fits, short_is, long_some, long_fits, long_is, rules)

pub starts_with-requires : goal.starts_with-requires
starts_with-requires c = search steps

pub overflow_add-result : goal.overflow_add-result
overflow_add-result c = search steps

pub slice_bounds-number-count : goal.slice_bounds-number-count
slice_bounds-number-count c = search steps

pub slice_bounds-number-start : goal.slice_bounds-number-start
slice_bounds-number-start c = search steps

pub slice_bounds-number-end : goal.slice_bounds-number-end
slice_bounds-number-end c = search steps

pub number-requires : goal.number-requires
number-requires c = search steps

pub returns-then-starts_with : goal.returns-then-starts_with
returns-then-starts_with c = search steps

pub overflow_add-result-2 : goal.overflow_add-result-2
overflow_add-result-2 c = search steps

pub slice_bounds-number-count-2 : goal.slice_bounds-number-count-2
slice_bounds-number-count-2 c = search steps

pub slice_bounds-number-start-2 : goal.slice_bounds-number-start-2
slice_bounds-number-start-2 c = search steps

pub slice_bounds-number-end-2 : goal.slice_bounds-number-end-2
slice_bounds-number-end-2 c = search steps

pub number-requires-2 : goal.number-requires-2
number-requires-2 c = search steps

pub returns : goal.returns
returns c = search steps
