-- `engine_bytes::put_counts` meets its contract: too little room, or the counts one after the other.
-- Assumes nothing.
use Rattle.engine_bytes.proofs.Laying.{counts_short, counts_laid}
use Rattle.engine_bytes.proofs.put_counts.Goals as goal

pub returns-then-out-lt42 : goal.returns-then-out-lt42
returns-then-out-lt42 c = counts_short c.args.outgoing _ c.if-out-lt42.true

pub returns : goal.returns
returns c =
    counts_laid c.args.outgoing _ c.if-out-lt42.false _ c.used.ensures _ c.put_number.ensures _ c.head.ensures _ c.put_number-2.ensures
    _ c.freed.ensures _ c.put_number-3.ensures _ c.highest.ensures _ c.put_number-4.ensures
