-- `put_status`: too little room, or all parts one after the other.
-- Assumes nothing.
use Rattle.hisproat.proofs.Readings.{status_short, status_laid}
use Rattle.hisproat.proofs.status.put_status.Goals as goal

pub returns-then-answer-lt-STATUS_SIZE : goal.returns-then-answer-lt-STATUS_SIZE
returns-then-answer-lt-STATUS_SIZE c t id = status_short _ _ c.if-answer-lt-STATUS_SIZE.true

pub returns : goal.returns
returns c =
    status_laid _ _ c.if-answer-lt-STATUS_SIZE.false _ c.connection-connection.ensures _ c.state-state.ensures _ c.role.ensures _ c.role_number.ensures _ c.put_number.ensures _ c.phase.ensures _ c.put_phase.ensures _ c.number.ensures _ c.put_number-2.ensures _ c.reading_limit.ensures _ c.put_number-3.ensures _ c.writing_limit.ensures _ c.put_number-4.ensures c.agreed_channel_max.result c.agreed_channel_max.ensures _ c.put_agreed.ensures _ c.taken_count.ensures _ c.put_number-5.ensures
