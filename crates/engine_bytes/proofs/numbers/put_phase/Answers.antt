-- `engine_bytes::numbers::put_phase` meets its contract: the bytes that are laid are those of the phase.
-- Assumes nothing.
use mathlib.Core.Path.{refl, ap}
use mathlib.Core.List.{[], ◌∷◌}
use Rattle.engine_bytes.proofs.Codes.{phase_laid_as}
use Rattle.engine_bytes.proofs.numbers.put_phase.Goals as goal

pub returns-in-Running : goal.returns-in-Running
returns-in-Running c = phase_laid_as _ _ _ _ _ _ c.in-Running.is refl c.copy.ensures

pub returns-in-Awaiting : goal.returns-in-Awaiting
returns-in-Awaiting c = phase_laid_as _ _ _ _ _ _ c.in-Awaiting.is (ap (λ n. 1 ∷ n ∷ []) c.outcome_number.ensures) c.copy-in-Awaiting.ensures

pub returns-in-Stopped : goal.returns-in-Stopped
returns-in-Stopped c = phase_laid_as _ _ _ _ _ _ c.in-Stopped.is (ap (λ n. 2 ∷ n ∷ []) c.outcome_number-in-Stopped.ensures) c.copy-in-Stopped.ensures
