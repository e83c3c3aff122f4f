-- `parts_len`: the condition as a symbol, and the bytes of the others.
-- Assumes nothing.
use Rattle.session_frame.proofs.Errors.{parts_fit, parts_sum}
use borrow.Author.Rules.{rules}
use Rattle.session_frame.proofs.error.parts_len.Goals as goal

ruleset steps = (parts_fit, parts_sum, rules)

pub slice_bounds-text_of-count : goal.slice_bounds-text_of-count
slice_bounds-text_of-count c = search steps

pub slice_bounds-text_of-start : goal.slice_bounds-text_of-start
slice_bounds-text_of-start c = search steps

pub slice_bounds-text_of-end : goal.slice_bounds-text_of-end
slice_bounds-text_of-end c = search steps

pub text_of-requires : goal.text_of-requires
text_of-requires c = search steps

pub text_len-requires : goal.text_len-requires
text_len-requires c = search steps

pub overflow_add-result : goal.overflow_add-result
overflow_add-result c = search steps

pub returns : goal.returns
returns c = search steps
