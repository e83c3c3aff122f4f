-- `hisproat_status`: 9, 8, or what is told of the engine.
-- Assumes nothing.
use Rattle.hisproat.proofs.Readings.{reports_short, reports_broken, status_told}
use Rattle.hisproat.proofs.status.hisproat_status.Goals as goal

pub returns-then-answer-lt-STATUS_SIZE : goal.returns-then-answer-lt-STATUS_SIZE
returns-then-answer-lt-STATUS_SIZE c = rw c.number.ensures (reports_short _ _ _ _ c.if-answer-lt-STATUS_SIZE.true)

pub returns-in_default : goal.returns-in_default
returns-in_default c = rw c.number-in_default.ensures (reports_broken _ _ _ _ c.if-answer-lt-STATUS_SIZE.false _ c.from_bytes.ensures c.in_default.is)

pub returns : goal.returns
returns c =
    status_told _ _ c.if-answer-lt-STATUS_SIZE.false _ c.from_bytes.ensures _ c.in-Some.is _ c.put_status.ensures
