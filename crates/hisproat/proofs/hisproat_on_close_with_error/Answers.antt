-- `hisproat_on_close_with_error`: 9, 8, or the event done.
-- Assumes nothing.
use Rattle.octets.specs.Output.{room_for}
use Rattle.hisproat.specs.Crossing.{fits_in}
use Rattle.hisproat.proofs.Crossings.{crosses_short, crosses_broken, crosses_in, read_long, does_close}
use Rattle.hisproat.proofs.hisproat_on_close_with_error.Goals as goal

pub returns-then-lacks_room : goal.returns-then-lacks_room
unfolding room_for fits_in
returns-then-lacks_room c = rw c.number.ensures (crosses_short _ _ _ _ c.lacks_room.ensures c.if-lacks_room.true)

pub returns-in_default : goal.returns-in_default
unfolding room_for fits_in
returns-in_default c = rw c.number-in_default.ensures (crosses_broken _ _ _ _ c.lacks_room.ensures c.if-lacks_room.false _ c.from_bytes.ensures c.in_default.is)

pub slice_bounds-on_close_with_error-count : goal.slice_bounds-on_close_with_error-count
slice_bounds-on_close_with_error-count c = read_long _ _ c.from_bytes.ensures _ c.in-Some.is

pub slice_bounds-on_close_with_error-start : goal.slice_bounds-on_close_with_error-start
slice_bounds-on_close_with_error-start c = read_long _ _ c.from_bytes.ensures _ c.in-Some.is

pub returns : goal.returns
unfolding room_for fits_in
returns c =
    crosses_in _ _ _ _ c.lacks_room.ensures c.if-lacks_room.false _ c.from_bytes.ensures _ c.in-Some.is _ _ _ _ (does_close _ _ c.error_of-error.ensures _ _ _ _ _ _ c.on_close_with_error-order.ensures.0) _ _ _ _ _ c.sent-ordered.ensures c.finish.ensures
