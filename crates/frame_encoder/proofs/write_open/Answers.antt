-- `write_open`: the refusals in their order, and then the writes.
-- Assumes nothing.
use borrow.Author.Rules.{rules}
use borrow.Author.Tests.{not-true, not-false}
use Rattle.frame_encoder.proofs.Steps.{ok_short, fields_room, open_9, open_8, open_27, open_wrote}
use Rattle.frame_encoder.proofs.write_open.Goals as goal

ruleset steps = (ok_short, fields_room, open_9, open_8, open_27, open_wrote, not-true, not-false, rules)

pub returns-then-out-lt16384 : goal.returns-then-out-lt16384
returns-then-out-lt16384 c = search steps

pub settings_ok-requires : goal.settings_ok-requires
settings_ok-requires c = search steps

pub returns-then-not-settings_ok : goal.returns-then-not-settings_ok
returns-then-not-settings_ok c = search steps

pub open_fields-fields-requires : goal.open_fields-fields-requires
open_fields-fields-requires c = search steps

pub frame_len-n-requires : goal.frame_len-n-requires
frame_len-n-requires c = search steps

pub returns-then-limit-n : goal.returns-then-limit-n
returns-then-limit-n c = search steps

pub overflow_cast-n : goal.overflow_cast-n
overflow_cast-n c = search steps

pub put_start-at-requires : goal.put_start-at-requires
put_start-at-requires c = search steps

pub put_open_fields-requires : goal.put_open_fields-requires
put_open_fields-requires c = (
  search steps,
  fields_room _ 16 _ _ _ _ _ _ _ c.open_fields-fields.ensures c.frame_len-n.ensures c.put_start-at.ensures.0 c.if-out-lt16384.false c.put_start-at.ensures.1,
)

pub shape_of-out : goal.shape_of-out
shape_of-out c = search steps

pub returns : goal.returns
returns c = search steps
