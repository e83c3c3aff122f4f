-- `write_close_with_error`: the refusals in their order, and then the writes.
-- Assumes nothing.
use borrow.Author.Rules.{rules}
use borrow.Author.Tests.{not-true, not-false}
use Rattle.frame_encoder.proofs.Steps.{error_short, error_room, close_9, close_8, close_27, close_wrote}
use Rattle.frame_encoder.proofs.write_close_with_error.Goals as goal

ruleset steps = (error_short, error_room, close_9, close_8, close_27, close_wrote, not-true, not-false, rules)

pub returns-then-out-lt16384 : goal.returns-then-out-lt16384
returns-then-out-lt16384 c = search steps

pub error_ok-requires : goal.error_ok-requires
error_ok-requires c = search steps

pub returns-then-not-error_ok : goal.returns-then-not-error_ok
returns-then-not-error_ok c = search steps

pub error_fields-fields-requires : goal.error_fields-fields-requires
error_fields-fields-requires c = search steps

pub error_len-size-requires : goal.error_len-size-requires
error_len-size-requires c = search steps

pub frame_len-n-requires : goal.frame_len-n-requires
frame_len-n-requires c = search steps

pub returns-then-limit-n : goal.returns-then-limit-n
returns-then-limit-n c = search steps

pub overflow_cast-n : goal.overflow_cast-n
overflow_cast-n c = search steps

pub put_start-at-requires : goal.put_start-at-requires
put_start-at-requires c = search steps

pub put_error-requires : goal.put_error-requires
put_error-requires c = (
  error_short _ _ c.error_ok.ensures c.if-not-error_ok.false,
  error_room _ _ _ _ _ _ _ _ c.error_fields-fields.ensures c.error_len-size.ensures.0 c.error_len-size.ensures.1 c.put_start-at.ensures.0 c.if-out-lt16384.false c.put_start-at.ensures.1,
)

pub shape_of-out : goal.shape_of-out
shape_of-out c = search steps

pub returns : goal.returns
returns c = search steps
