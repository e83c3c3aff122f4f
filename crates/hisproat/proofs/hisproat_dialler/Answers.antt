-- `hisproat_dialler`: 8 for a state that is too short for any engine, or what comes of the settings.
-- Assumes nothing.
use Rattle.hisproat.specs.Answers.{flagged}
use Rattle.hisproat.proofs.Starting.{makes_short, makes}
use Rattle.hisproat.proofs.hisproat_dialler.Goals as goal

pub returns-then-state-lt-FIXED_SIZE : goal.returns-then-state-lt-FIXED_SIZE
returns-then-state-lt-FIXED_SIZE c = rw c.number.ensures (makes_short _ _ _ c.if-state-lt-FIXED_SIZE.true)

pub returns : goal.returns
returns c =
    makes _ _ _ _ (flagged c.args.has_idle_time_out) _ _ c.if-state-lt-FIXED_SIZE.false c.ranges.idle_time_out.fits _ c.idle_of.ensures _ _ c.dialler-new.ensures _ _ c.started.ensures
