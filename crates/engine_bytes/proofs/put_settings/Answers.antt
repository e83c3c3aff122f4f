-- `engine_bytes::put_settings` meets its contract: too little room, or all parts one after the other.
-- Assumes nothing.
use Rattle.engine_bytes.proofs.Laying.{settings_short, settings_laid}
use Rattle.engine_bytes.proofs.put_settings.Goals as goal

pub returns-then-out-lt16 : goal.returns-then-out-lt16
returns-then-out-lt16 c = settings_short c.args.engine _ c.if-out-lt16.true

pub returns : goal.returns
returns c =
    settings_laid c.args.engine _ c.if-out-lt16.false _ c.connection-connection.ensures _ c.local_open-open.ensures _ c.idle_time_out-idle.ensures _ c.put_number.ensures
    _ c.role.ensures _ c.role_number.ensures _ c.put_number-2.ensures c.is_there.result c.is_there.ensures _ c.flag.ensures _ c.put_number-3.ensures
    _ c.channel_max.ensures _ c.put_number-4.ensures _ c.max_frame_size.ensures _ c.put_number-5.ensures _ c.millis.ensures _ c.put_number-6.ensures
