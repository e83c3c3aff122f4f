-- `engine_bytes::numbers::outcome_with` meets its contract: an arm for each outcome's number, and one for all other numbers.
-- Assumes nothing.
use mathlib.Core.Path.{sym, ap}
use Rattle.engine_bytes.specs.Bytes.{outcome_with}
use Rattle.engine_bytes.proofs.Codes.{outcome_none}
use Rattle.engine_bytes.proofs.numbers.outcome_with.Goals as goal

pub returns-in-0 : goal.returns-in-0
unfolding outcome_with
returns-in-0 c = ap outcome_with (sym c.in-0.is)

pub returns-in-1 : goal.returns-in-1
unfolding outcome_with
returns-in-1 c = ap outcome_with (sym c.in-1.is)

pub returns-in-2 : goal.returns-in-2
unfolding outcome_with
returns-in-2 c = ap outcome_with (sym c.in-2.is)

pub returns-in-3 : goal.returns-in-3
unfolding outcome_with
returns-in-3 c = ap outcome_with (sym c.in-3.is)

pub returns-in-4 : goal.returns-in-4
unfolding outcome_with
returns-in-4 c = ap outcome_with (sym c.in-4.is)

pub returns-in-5 : goal.returns-in-5
unfolding outcome_with
returns-in-5 c = ap outcome_with (sym c.in-5.is)

pub returns-in-6 : goal.returns-in-6
unfolding outcome_with
returns-in-6 c = ap outcome_with (sym c.in-6.is)

pub returns-in_default : goal.returns-in_default
returns-in_default c = outcome_none _ c.in_default.in_default-own.rest
