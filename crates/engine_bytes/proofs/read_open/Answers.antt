-- `read_open`: a flag, the container-id and three numbers, judged as settings are.
-- Assumes nothing.
use mathlib.Core.Path.{refl}
use Rattle.engine_bytes.proofs.Reading.{open_flag, open_long, open_read_lem}
use Rattle.engine_bytes.proofs.read_open.Goals as goal

pub returns-then-there-gt1 : goal.returns-then-there-gt1
returns-then-there-gt1 c = open_flag _ c.requires c.if-there-gt1.true

pub returns-then-n-gt-ID_MAX : goal.returns-then-n-gt-ID_MAX
returns-then-n-gt-ID_MAX c =
    open_long _ c.requires c.if-there-gt1.false _ c.two_at-n.ensures c.if-n-gt-ID_MAX.true

pub returns : goal.returns
returns c =
    open_read_lem _ c.requires c.if-there-gt1.false c.two_at-n.result c.two_at-n.ensures c.new.result _ c.four_at.result c.two_at.result c.four_at-2.result c.idle_of.result refl c.new.ensures c.four_at.ensures c.two_at.ensures c.idle_of.ensures c.four_at-2.ensures
