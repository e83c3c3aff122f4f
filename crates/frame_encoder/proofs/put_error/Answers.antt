-- `put_error`: what stands before the fields, and then the fields.
-- Assumes nothing.
use borrow.Author.Rules.{rules}
use Rattle.frame_encoder.proofs.Steps.{texts_room, error_laid}
use Rattle.frame_encoder.proofs.put_error.Goals as goal

ruleset steps = (texts_room, error_laid, rules)

pub composite_header_len-h-requires : goal.composite_header_len-h-requires
composite_header_len-h-requires c = search steps

pub put_composite_header-requires : goal.put_composite_header-requires
put_composite_header-requires c = search steps

pub overflow_add-at : goal.overflow_add-at
overflow_add-at c = search steps

pub put_texts-requires : goal.put_texts-requires
put_texts-requires c = search steps

pub shape_of-out : goal.shape_of-out
shape_of-out c = search steps

pub returns : goal.returns
returns c = search steps
