-- `text_of`: what stands after the header.
-- Assumes nothing.
use Rattle.session_frame.proofs.Steps.{text_cut, text_rest}
use borrow.Author.Rules.{rules}
use Rattle.session_frame.proofs.field.text_of.Goals as goal

ruleset steps = (text_cut, text_rest, rules)

pub text_start-from-requires : goal.text_start-from-requires
text_start-from-requires c = search steps

pub slice_bounds-result-end : goal.slice_bounds-result-end
slice_bounds-result-end c = search steps

pub returns-then-f-from : goal.returns-then-f-from
returns-then-f-from c = search steps

pub slice_bounds-result-count : goal.slice_bounds-result-count
slice_bounds-result-count c = search steps

pub slice_bounds-result-start : goal.slice_bounds-result-start
slice_bounds-result-start c = search steps

pub slice_bounds-result-end-2 : goal.slice_bounds-result-end-2
slice_bounds-result-end-2 c = search steps

pub returns : goal.returns
returns c = search steps
