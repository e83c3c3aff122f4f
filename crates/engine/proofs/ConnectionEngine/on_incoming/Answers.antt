-- `on_incoming`: 9, 8, 20, 1, the refusal of the waiting frames, and where the frame leads.
-- Assumes nothing.
use borrow.Author.Rules.{rules}
use Rattle.engine.proofs.Bare.{bare_on, bare_not}
use Rattle.engine.proofs.Taking.{incoming_9, incoming_8, incoming_20, incoming_1, incoming_waiting, incoming_done}
use Rattle.engine.proofs.ConnectionEngine.on_incoming.Goals as goal

pub returns-then-lacks_room : goal.returns-then-lacks_room
returns-then-lacks_room c = search (incoming_9, bare_not, rules)

pub returns-then-not-is_covered : goal.returns-then-not-is_covered
returns-then-not-is_covered c = search (incoming_8, bare_not, rules)

pub returns-then-is_stopped : goal.returns-then-is_stopped
returns-then-is_stopped c = search (incoming_20, bare_not, rules)

pub returns-then-lacks_bytes : goal.returns-then-lacks_bytes
returns-then-lacks_bytes c = search (incoming_1, bare_not, rules)

pub returns-in-Err : goal.returns-in-Err
returns-in-Err c = (
  incoming_waiting _ _ _ _ _ _ _ c.lacks_room.ensures c.if-lacks_room.false _ c.is_covered.ensures c.if-not-is_covered.false-raw _ c.is_stopped.ensures c.if-is_stopped.false _ c.reading_limit.ensures _ c.lacks_bytes.ensures
      c.if-lacks_bytes.false c.session_frames.result _ c.channel_max.ensures c.session_frames.ensures c.not_taken-in-Err.result _ c.in-Err.is (search rules),
  search (bare_not, rules),
)

pub returns : goal.returns
returns c = (
  incoming_done _ _ _ _ _ _ _ c.lacks_room.ensures c.if-lacks_room.false _ c.is_covered.ensures c.if-not-is_covered.false-raw _ c.is_stopped.ensures c.if-is_stopped.false _ c.reading_limit.ensures _ c.lacks_bytes.ensures
      c.if-lacks_bytes.false c.session_frames.result _ c.channel_max.ensures c.session_frames.ensures _ _ _ _ _ _ _ _ _ _ c.in-Ok.is c.receive_frame-received.ensures c.lands-landed.ensures c.frame_size.ensures c.consumed_by.ensures c.taken.ensures,
  search (bare_on, rules),
)
