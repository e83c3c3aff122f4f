-- `engine_bytes::write` meets its contract: too little room, or all parts one after the other.
-- Assumes nothing.
use Rattle.engine_bytes.proofs.Laying.{moving_short, moving_laid}
use Rattle.engine_bytes.proofs.write.Goals as goal

pub returns-then-out-lt42 : goal.returns-then-out-lt42
returns-then-out-lt42 c = moving_short c.args.engine _ c.if-out-lt42.true

pub returns : goal.returns
returns c =
    moving_laid c.args.engine _ c.if-out-lt42.false _ c.connection-connection.ensures _ c.state-state.ensures _ c.outgoing-outgoing.ensures _ c.phase.ensures
    _ c.put_phase.ensures _ c.number.ensures _ c.put_number.ensures _ c.is_opened.ensures _ c.flag.ensures _ c.put_number-2.ensures
    _ c.reading_limit.ensures _ c.put_number-3.ensures _ c.writing_limit.ensures _ c.put_number-4.ensures _ c.put_counts.ensures
