-- `hisproat_tied_handle`: 9, 8, or the handle.
-- Assumes nothing.
use Rattle.hisproat.proofs.Crossings.{read_long}
use Rattle.hisproat.proofs.Readings.{reports_short, reports_broken, tied_told}
use Rattle.hisproat.proofs.status.hisproat_tied_handle.Goals as goal

pub returns-then-answer-lt-HANDLE_SIZE : goal.returns-then-answer-lt-HANDLE_SIZE
returns-then-answer-lt-HANDLE_SIZE c = rw c.number.ensures (reports_short _ _ _ _ c.if-answer-lt-HANDLE_SIZE.true)

pub returns-in_default : goal.returns-in_default
returns-in_default c = rw c.number-in_default.ensures (reports_broken _ _ _ _ c.if-answer-lt-HANDLE_SIZE.false _ c.from_bytes.ensures c.in_default.is)

pub slice_bounds-tied_handle-count : goal.slice_bounds-tied_handle-count
slice_bounds-tied_handle-count c = read_long _ _ c.from_bytes.ensures _ c.in-Some.is

pub slice_bounds-tied_handle-start : goal.slice_bounds-tied_handle-start
slice_bounds-tied_handle-start c = read_long _ _ c.from_bytes.ensures _ c.in-Some.is

pub returns : goal.returns
returns c =
    tied_told _ _ _ c.if-answer-lt-HANDLE_SIZE.false _ c.from_bytes.ensures _ c.in-Some.is _ c.connection-connection.ensures _ _ _ c.put_handle.ensures c.tied_handle.ensures
