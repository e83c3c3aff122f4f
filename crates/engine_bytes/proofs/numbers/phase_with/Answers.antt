-- `engine_bytes::numbers::phase_with` meets its contract: a law for each of the six returns.
-- Assumes nothing.
use mathlib.Core.Path.{ap, ◌∙◌}
use Rattle.engine_bytes.specs.Promises.{phase_read}
use Rattle.engine_bytes.proofs.Codes.{phase_runs, phase_keeps, phase_unread, phase_awaits, phase_stops, phase_none}
use Rattle.engine_bytes.proofs.numbers.phase_with.Goals as goal

pub returns-then-o-eq0 : goal.returns-then-o-eq0
returns-then-o-eq0 c = phase_runs _ _ c.if-p-eq0.true c.if-o-eq0.true

pub returns-then-p-eq0 : goal.returns-then-p-eq0
returns-then-p-eq0 c = phase_keeps _ _ c.if-p-eq0.true c.if-o-eq0.false

pub returns-in_err-outcome : goal.returns-in_err-outcome
returns-in_err-outcome c =
    ap phase_read c.from_residual.ensures ∙ phase_unread _ _ _ c.outcome_with.ensures c.if-p-eq0.false c.in_err-outcome.was

pub returns-then-p-eq1 : goal.returns-then-p-eq1
returns-then-p-eq1 c = phase_awaits _ _ _ c.outcome_with.ensures _ c.in_ok-outcome.was c.if-p-eq1.true

pub returns-then-p-eq2 : goal.returns-then-p-eq2
returns-then-p-eq2 c = phase_stops _ _ _ c.outcome_with.ensures _ c.in_ok-outcome.was c.if-p-eq2.true

pub returns : goal.returns
returns c = phase_none _ _ c.if-p-eq0.false c.if-p-eq1.false c.if-p-eq2.false
