-- `hisproat_on_allocate`: 9, 8, or the event done.
-- Assumes nothing.
use mathlib.Core.Path.{refl}
use Rattle.hisproat.proofs.Crossings.{crosses_short, crosses_broken, crosses_in, read_long, too_short, long_enough}
use Rattle.hisproat.proofs.hisproat_on_allocate.Goals as goal

pub returns-then-answer-lt-ANSWER_SIZE : goal.returns-then-answer-lt-ANSWER_SIZE
returns-then-answer-lt-ANSWER_SIZE c = rw c.number.ensures (crosses_short _ _ _ _ (too_short _ _ refl c.if-answer-lt-ANSWER_SIZE.true) refl)

pub returns-in_default : goal.returns-in_default
returns-in_default c = rw c.number-in_default.ensures (crosses_broken _ _ _ _ (long_enough _ _ refl c.if-answer-lt-ANSWER_SIZE.false) refl _ c.from_bytes.ensures c.in_default.is)

pub slice_bounds-on_allocate-count : goal.slice_bounds-on_allocate-count
slice_bounds-on_allocate-count c = read_long _ _ c.from_bytes.ensures _ c.in-Some.is

pub slice_bounds-on_allocate-start : goal.slice_bounds-on_allocate-start
slice_bounds-on_allocate-start c = read_long _ _ c.from_bytes.ensures _ c.in-Some.is

pub returns : goal.returns
returns c =
    crosses_in _ _ _ _ (long_enough _ _ refl c.if-answer-lt-ANSWER_SIZE.false) refl _ c.from_bytes.ensures _ c.in-Some.is _ _ _ _ c.on_allocate-given.ensures.0 _ _ _ _ _ c.allocated.ensures c.finish.ensures
