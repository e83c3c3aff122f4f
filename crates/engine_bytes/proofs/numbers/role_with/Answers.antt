-- `engine_bytes::numbers::role_with` meets its contract: an arm for each role's number, and one for all other numbers.
-- Assumes nothing.
use mathlib.Core.Path.{sym, ap}
use Rattle.engine_bytes.specs.Bytes.{role_with}
use Rattle.engine_bytes.proofs.Codes.{role_none}
use Rattle.engine_bytes.proofs.numbers.role_with.Goals as goal

pub returns-in-0 : goal.returns-in-0
returns-in-0 c = ap role_with (sym c.in-0.is)

pub returns-in-1 : goal.returns-in-1
returns-in-1 c = ap role_with (sym c.in-1.is)

pub returns-in_default : goal.returns-in_default
returns-in_default c = role_none _ c.in_default.in_default-own.rest
