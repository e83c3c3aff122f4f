-- `read`: one law for each answer.
-- Assumes nothing.
use borrow.Author.Rules.{rules}
use Rattle.frame_decoder.proofs.Steps.{part_from, part_end, read_refused, read_empty, read_malformed, read_body}
use Rattle.frame_decoder.proofs.read.Goals as goal

ruleset steps = (part_from, part_end, read_refused, read_empty, rules)

pub returns-in_err-size : goal.returns-in_err-size
returns-in_err-size c = search steps

pub returns-then-size-from : goal.returns-then-size-from
returns-then-size-from c = read_empty _ _ _ _ c.read_header.ensures _ c.in_ok-size.was c.if-size-from.true

pub slice_bounds-read-count : goal.slice_bounds-read-count
slice_bounds-read-count c = search steps

pub slice_bounds-read-start : goal.slice_bounds-read-start
slice_bounds-read-start c = search steps

pub slice_bounds-read-end : goal.slice_bounds-read-end
slice_bounds-read-end c = part_end _ _ _ _ c.read_header.ensures _ c.in_ok-size.was

pub read-requires : goal.read-requires
read-requires c = search steps

pub returns-in_default : goal.returns-in_default
returns-in_default c = read_malformed _ _ _ _ c.read_header.ensures _ c.in_ok-size.was c.if-size-from.false c.in_default.ensures

pub returns : goal.returns
returns c = read_body _ _ _ _ c.read_header.ensures _ c.in_ok-size.was c.if-size-from.false _ _ c.in-Some.ensures
