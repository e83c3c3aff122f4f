-- `put_head`: two writes, one after the other.
-- Assumes nothing.
use Rattle.session_frame.proofs.Frames.{head_fits, head_length, head_laid}
use borrow.Author.Rules.{rules}
use Rattle.session_frame.proofs.put_head.Goals as goal

ruleset steps = (head_fits, head_length, head_laid, rules)

pub put_frame_header-requires : goal.put_frame_header-requires
put_frame_header-requires c = search steps

pub overflow_cast-plan : goal.overflow_cast-plan
overflow_cast-plan c = search steps

pub overflow_cast-plan-2 : goal.overflow_cast-plan-2
overflow_cast-plan-2 c = search steps

pub overflow_cast-plan-3 : goal.overflow_cast-plan-3
overflow_cast-plan-3 c = search steps

pub put_composite_header-requires : goal.put_composite_header-requires
put_composite_header-requires c = search steps

pub overflow_cast-plan-4 : goal.overflow_cast-plan-4
overflow_cast-plan-4 c = search steps

pub overflow_add-result : goal.overflow_add-result
overflow_add-result c = search steps

pub shape_of-out : goal.shape_of-out
shape_of-out c = search steps

pub returns : goal.returns
returns c = search steps
