-- `session_frame`: a header that is refused, and the body of one that is opened.
-- Assumes nothing.
use borrow.Author.Rules.{rules}
use Rattle.frame_decoder.proofs.Steps.{part_from, part_end, session_refused, session_is}
use Rattle.frame_decoder.proofs.session_frame.Goals as goal

ruleset steps = (part_from, part_end, session_refused, session_is, rules)

pub returns-in_err-size : goal.returns-in_err-size
returns-in_err-size c = search steps

pub slice_bounds-session_body-count : goal.slice_bounds-session_body-count
slice_bounds-session_body-count c = search steps

pub slice_bounds-session_body-start : goal.slice_bounds-session_body-start
slice_bounds-session_body-start c = search steps

pub slice_bounds-session_body-end : goal.slice_bounds-session_body-end
slice_bounds-session_body-end c = part_end _ _ _ _ c.read_header.ensures _ c.in_ok-size.was

pub returns : goal.returns
returns c = session_is _ _ _ c.read_header.ensures _ c.in_ok-size.was _ c.session_body.ensures
