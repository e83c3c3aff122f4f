-- `engine_bytes::write_new` meets its contract: too little room, or all parts one after the other.
-- Assumes nothing.
use Rattle.engine_bytes.proofs.Laying.{fixed_short, fixed_over, fixed_laid}
use Rattle.engine_bytes.proofs.write_new.Goals as goal

pub returns-then-out-lt-ID : goal.returns-then-out-lt-ID
returns-then-out-lt-ID c = let a = c.args in fixed_short a.engine a.container_id.now _ c.if-out-lt-ID.true

pub returns-then-out-container_id : goal.returns-then-out-container_id
returns-then-out-container_id c = let a = c.args in fixed_over a.engine a.container_id.now _ c.if-out-lt-ID.false c.if-out-container_id.true

pub returns : goal.returns
returns c =
    let a = c.args in
    fixed_laid a.engine a.container_id.now _ c.if-out-lt-ID.false c.if-out-container_id.false _ c.put_settings.ensures _ c.write.ensures _ c.put_number.ensures _ c.copy.ensures
