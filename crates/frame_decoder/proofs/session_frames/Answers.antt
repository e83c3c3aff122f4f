-- `session_frames`: the loop keeps that so many frames stand before `at`.
-- Assumes nothing.
use borrow.Author.Rules.{rules}
use Rattle.frame_decoder.proofs.Steps.{counted_none, counted_all, frames_stop, frames_on, frames_less, at_fits, count_fits}
use Rattle.frame_decoder.proofs.session_frames.Goals as goal

ruleset steps = (counted_none, counted_all, frames_stop, frames_on, frames_less, at_fits, count_fits, rules)

pub loop-at-init : goal.loop-at-init
loop-at-init c = search steps

pub slice_bounds-session_frame-count : goal.slice_bounds-session_frame-count
slice_bounds-session_frame-count c = search steps

pub slice_bounds-session_frame-start : goal.slice_bounds-session_frame-start
slice_bounds-session_frame-start c = search steps

pub slice_bounds-session_frame-end : goal.slice_bounds-session_frame-end
slice_bounds-session_frame-end c = search steps

pub enum_known-frame : goal.enum_known-frame
enum_known-frame c = search steps

pub overflow_add-at : goal.overflow_add-at
overflow_add-at c = at_fits _ _ _ _ c.loop-at.invariant c.loop-at-test.true _ c.session_frame.ensures _ c.in_ok-frame.was _ c.size-at.ensures (search rules)

pub overflow_add-count : goal.overflow_add-count
overflow_add-count c = search steps

pub loop-at-smaller : goal.loop-at-smaller
loop-at-smaller c = frames_less _ _ _ _ c.loop-at.invariant c.loop-at-test.true _ c.session_frame.ensures _ c.in_ok-frame.was _ c.size-at.ensures

pub loop-at-preserved : goal.loop-at-preserved
loop-at-preserved c = frames_on _ _ _ _ c.loop-at.invariant c.loop-at-test.true _ c.session_frame.ensures _ c.in_ok-frame.was _ c.size-at.ensures

pub returns : goal.returns
returns c = search steps

pub returns-in_err-frame : goal.returns-in_err-frame
returns-in_err-frame c = search steps
