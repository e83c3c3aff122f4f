-- `body`: what a header that was opened says of the body.
-- Assumes nothing.
use borrow.Author.Rules.{rules}
use Rattle.frame_decoder.proofs.Steps.{part_from, part_end, body_none, body_some}
use Rattle.frame_decoder.proofs.body.Goals as goal

ruleset steps = (part_from, part_end, body_none, body_some, rules)

pub returns-in_default : goal.returns-in_default
returns-in_default c = search steps

pub slice_bounds-result-count : goal.slice_bounds-result-count
slice_bounds-result-count c = search steps

pub slice_bounds-result-start : goal.slice_bounds-result-start
slice_bounds-result-start c = search steps

pub slice_bounds-result-end-2 : goal.slice_bounds-result-end-2
slice_bounds-result-end-2 c = search steps

pub returns : goal.returns
returns c = search steps
