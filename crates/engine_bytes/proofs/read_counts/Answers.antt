-- `read_counts`: a flag and four numbers, judged by the channels.
-- Assumes nothing.
use Rattle.engine_bytes.proofs.Reading.{counts_not, counts_read}
use Rattle.engine_bytes.proofs.read_counts.Goals as goal

pub returns-then-agreed-gt1 : goal.returns-then-agreed-gt1
returns-then-agreed-gt1 c = counts_not _ c.requires c.if-agreed-gt1.true

pub returns : goal.returns
returns c =
    counts_read _ c.requires _ _ _ _ _ c.if-agreed-gt1.false c.resumed.ensures c.two_at.ensures c.four_at.ensures c.four_at-2.ensures c.four_at-3.ensures
