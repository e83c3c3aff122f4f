-- `put_start`: the frame header, and then that of the list.
-- Assumes nothing.
use borrow.Author.Rules.{rules}
use native.Mathlib.Omega.{arith}
use Rattle.frame_encoder.proofs.Steps.{start_laid}
use Rattle.frame_encoder.proofs.put_start.Goals as goal

ruleset steps = (start_laid, rules)

pub put_frame_header-requires : goal.put_frame_header-requires
put_frame_header-requires c = search steps

pub put_composite_header-requires : goal.put_composite_header-requires
put_composite_header-requires c = search steps

pub composite_header_len-requires : goal.composite_header_len-requires
composite_header_len-requires c = search steps

pub overflow_add-result : goal.overflow_add-result
overflow_add-result c = search steps

pub shape_of-out : goal.shape_of-out
shape_of-out c = search steps

pub returns : goal.returns
returns c = (omega arith, search steps)
