-- `close`: the refusals of the order, a waiting frame that is refused, and the Close.
-- Assumes nothing.
use borrow.Author.Rules.{rules}
use Rattle.engine.proofs.Bare.{bare_not}
use Rattle.engine.proofs.Closing.{gone_bare, order_stopped, order_refused, order_sent}
use Rattle.engine.proofs.Draining.{inside_drained}
use Rattle.engine.proofs.ConnectionEngine.close.Goals as goal

pub gone_out-requires : goal.gone_out-requires
gone_out-requires c = inside_drained _ _ _ _ _ _ _ _ c.send_waiting-waited.ensures

pub returns-in_default : goal.returns-in_default
returns-in_default c = (
  order_stopped _ _ _ _ _ _ c.error_fine-fine.ensures _ c.frames_to_send-frames.ensures _ c.in-Ok.is _ _ _ c.send_waiting-waited.ensures _ _ _ c.in_default.is c.gone_out.ensures,
  gone_bare _ _ _ _ _ _ _ c.gone_out.ensures,
)

pub slice_bounds-send_last-count : goal.slice_bounds-send_last-count
slice_bounds-send_last-count c = inside_drained _ _ _ _ _ _ _ _ c.send_waiting-waited.ensures

pub slice_bounds-send_last-start : goal.slice_bounds-send_last-start
slice_bounds-send_last-start c = inside_drained _ _ _ _ _ _ _ _ c.send_waiting-waited.ensures

pub gone_out-requires-in-Ok : goal.gone_out-requires-in-Ok
gone_out-requires-in-Ok c =
    let i = inside_drained _ _ _ _ _ _ _ _ c.send_waiting-waited.ensures in
    search (i, rules)

pub returns-in-Err : goal.returns-in-Err
returns-in-Err c = search (order_refused, bare_not, rules)

pub returns-in-Ok-answer : goal.returns-in-Ok-answer
returns-in-Ok-answer c = (
  order_sent _ _ _ _ _ _ c.error_fine-fine.ensures _ c.frames_to_send-frames.ensures _ c.in-Ok.is _ _ _ c.send_waiting-waited.ensures _ _ c.out-in-Ok-1.given.0 _ _ _
      c.in-Ok-answer.is c.send_last-sent.ensures c.gone_out-in-Ok.ensures,
  gone_bare _ _ _ _ _ _ _ c.gone_out-in-Ok.ensures,
)
