-- `on_outgoing_session_frame`: 9, 8, 20, the refusals of the input, the frame written, and the error path.
-- Assumes nothing.
use borrow.Author.Rules.{rules}
use Rattle.engine.proofs.Bare.{bare_on, bare_not, bare_landed}
use Rattle.engine.proofs.Outgoing.{outgoing_9, outgoing_8, outgoing_20, outgoing_input, outgoing_done, outgoing_failing}
use Rattle.engine.proofs.ConnectionEngine.on_outgoing_session_frame.Goals as goal

pub returns-then-out-lt-OUTPUT_ROOM : goal.returns-then-out-lt-OUTPUT_ROOM
returns-then-out-lt-OUTPUT_ROOM c = search (outgoing_9, bare_not, rules)

pub returns-then-not-is_covered : goal.returns-then-not-is_covered
returns-then-not-is_covered c = search (outgoing_8, bare_not, rules)

pub returns-then-is_ending : goal.returns-then-is_ending
returns-then-is_ending c = search (outgoing_20, bare_not, rules)

pub returns-then-is_of_input : goal.returns-then-is_of_input
returns-then-is_of_input c = (
  outgoing_input _ _ _ _ (search rules) _ c.is_covered.ensures c.if-not-is_covered.false-raw _ c.is_ending.ensures c.if-is_ending.false c.not_outgoing-then-is_of_input.result _ _ _ _ _ _
      c.send_session_frame-sent.ensures c.in-Err.is c.is_of_input.ensures c.if-is_of_input.true (search rules),
  search (bare_not, rules),
)

pub returns-in-Ok : goal.returns-in-Ok
returns-in-Ok c = (
  outgoing_done _ _ _ _ (search rules) _ c.is_covered.ensures c.if-not-is_covered.false-raw _ c.is_ending.ensures c.if-is_ending.false _ _ _ _ _ _ _
      c.send_session_frame-sent.ensures c.in-Ok.is c.settle-engine.ensures c.running.ensures,
  search (bare_on, rules),
)

pub returns-else-is_of_input : goal.returns-else-is_of_input
returns-else-is_of_input c = (
  outgoing_failing _ _ _ _ (search rules) _ c.is_covered.ensures c.if-not-is_covered.false-raw _ c.is_ending.ensures c.if-is_ending.false _ _ _ _ _ _ _ _
      c.outgoing_error.result _
      c.send_session_frame-sent.ensures c.in-Err.is c.is_of_input.ensures c.if-is_of_input.false c.outgoing_error.ensures c.on_error-landed.ensures c.landed_out.ensures,
  search (bare_landed, rules),
)
