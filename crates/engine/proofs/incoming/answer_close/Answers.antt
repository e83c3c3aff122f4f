-- `answer_close`: a waiting frame that is refused, the Close refused, and the Close written.
-- Assumes nothing.
use borrow.Author.Rules.{rules}
use Rattle.engine.proofs.Answering.{answers_refused, answers_closed, answers_unclosed}
use Rattle.engine.proofs.Draining.{inside_drained}
use Rattle.engine.proofs.incoming.answer_close.Goals as goal

pub on_error-requires : goal.on_error-requires
on_error-requires c = inside_drained _ _ _ _ _ _ _ _ c.send_waiting-waited.ensures

pub returns-in-Err : goal.returns-in-Err
returns-in-Err c =
    answers_refused _ _ _ _ _ _ _ _ _ c.send_waiting-waited.ensures _ c.outgoing_error.result _ _ c.in-Err.is c.outgoing_error.ensures c.on_error.ensures

pub slice_bounds-send_close-count : goal.slice_bounds-send_close-count
slice_bounds-send_close-count c = inside_drained _ _ _ _ _ _ _ _ c.send_waiting-waited.ensures

pub slice_bounds-send_close-start : goal.slice_bounds-send_close-start
slice_bounds-send_close-start c = inside_drained _ _ _ _ _ _ _ _ c.send_waiting-waited.ensures

pub on_error-requires-in-Err-closed : goal.on_error-requires-in-Err-closed
on_error-requires-in-Err-closed c =
    let i = inside_drained _ _ _ _ _ _ _ _ c.send_waiting-waited.ensures in
    search (i, rules)

pub shape_of-tables-in-Err-closed : goal.shape_of-tables-in-Err-closed
shape_of-tables-in-Err-closed c = c.tables-1.given

pub returns-in-Err-closed : goal.returns-in-Err-closed
returns-in-Err-closed c =
    answers_unclosed _ _ _ _ _ _ _ _ _ c.send_waiting-waited.ensures (search rules) _ _ _ c.send_close-sent.ensures (search rules) _ c.outgoing_error-in-Err-closed.result _ _
    c.in-Err-closed.is c.outgoing_error-in-Err-closed.ensures c.on_error-in-Err-closed.ensures

pub returns-in-Ok : goal.returns-in-Ok
returns-in-Ok c =
    answers_closed _ _ _ _ _ _ _ _ _ c.send_waiting-waited.ensures (search rules) _ _ _ c.send_close-sent.ensures (search rules) c.state-reached.result c.state.result c.role.result _ _ _
    c.in-Ok.is c.state-reached.ensures c.state.ensures c.role.ensures c.phase_answered.ensures c.advanced.ensures
