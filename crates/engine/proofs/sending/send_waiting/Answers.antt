-- `send_waiting`: the loop keeps that the frames before `at` are sent, and that what is left is the rest of the trail.
-- Assumes nothing.
use mathlib.Core.Path.{◌≡◌}
use Prim.Native.Nat.{◌+◌, ◌-◌, ◌<◌}
use native.Mathlib.Omega.{arith}
use borrow.Author.Rules.{rules}
use Rattle.engine.proofs.Draining.{going_start, drained_stop, going_on, drained_all}
use Rattle.engine.proofs.sending.send_waiting.Goals as goal

ruleset steps = (going_start, drained_stop, going_on, drained_all, rules)

pub loop-sent-init : goal.loop-sent-init
loop-sent-init c = search steps

pub slice_bounds-frame_size-count : goal.slice_bounds-frame_size-count
slice_bounds-frame_size-count c = search steps

pub slice_bounds-frame_size-start : goal.slice_bounds-frame_size-start
slice_bounds-frame_size-start c = search steps

pub slice_bounds-frame_size-end : goal.slice_bounds-frame_size-end
slice_bounds-frame_size-end c = search steps

pub frame_size-size-requires : goal.frame_size-size-requires
frame_size-size-requires c = search steps

pub slice_bounds-send_session_frame-count : goal.slice_bounds-send_session_frame-count
slice_bounds-send_session_frame-count c = search steps

pub slice_bounds-send_session_frame-start : goal.slice_bounds-send_session_frame-start
slice_bounds-send_session_frame-start c = search steps

pub slice_bounds-send_session_frame-end : goal.slice_bounds-send_session_frame-end
slice_bounds-send_session_frame-end c = search steps

pub slice_bounds-send_session_frame-count-in-loop-sent : goal.slice_bounds-send_session_frame-count-in-loop-sent
slice_bounds-send_session_frame-count-in-loop-sent c = search steps

pub slice_bounds-send_session_frame-start-in-loop-sent : goal.slice_bounds-send_session_frame-start-in-loop-sent
slice_bounds-send_session_frame-start-in-loop-sent c = search steps

pub slice_bounds-send_session_frame-end-in-loop-sent : goal.slice_bounds-send_session_frame-end-in-loop-sent
slice_bounds-send_session_frame-end-in-loop-sent c = search steps

pub send_session_frame-sent-requires : goal.send_session_frame-sent-requires
send_session_frame-sent-requires c = search steps

pub enum_known-answer : goal.enum_known-answer
enum_known-answer c = search steps

pub enum_told-1 : goal.enum_told-1
enum_told-1 c = search steps

pub shape_of-tables-in_default : goal.shape_of-tables-in_default
shape_of-tables-in_default c = search steps

pub shape_of-out-in_default : goal.shape_of-out-in_default
shape_of-out-in_default c = search steps

pub returns-in_default : goal.returns-in_default
returns-in_default c = let more : 0 < c.args.count - c.loop-sent._sent = omega arith in search steps

pub advanced-at-requires : goal.advanced-at-requires
advanced-at-requires c = search steps

pub advanced-written-requires : goal.advanced-written-requires
advanced-written-requires c = search steps

pub loop-sent-preserved : goal.loop-sent-preserved
loop-sent-preserved c =
    let more : 0 < c.args.count - c.loop-sent._sent = omega arith in
    let e : c.args.count - (c.loop-sent._sent + 1) ≡ c.args.count - c.loop-sent._sent - 1 = omega arith in
    rw e (search steps)

pub shape_of-tables : goal.shape_of-tables
shape_of-tables c = search steps

pub shape_of-out : goal.shape_of-out
shape_of-out c = search steps

pub returns : goal.returns
returns c = drained_all _ _ _ _ _ _ _ _ _ _ _ _ c.loop-sent.invariant (omega arith)
