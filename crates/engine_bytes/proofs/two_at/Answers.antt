-- `two_at`: the number in two bytes from a place on.
-- Assumes nothing.
use native.Mathlib.Omega.{arith}
use Rattle.engine_bytes.proofs.Reading.{number_is, number_low}
use Rattle.engine_bytes.proofs.two_at.Goals as goal

pub overflow_cast-result : goal.overflow_cast-result
overflow_cast-result c = record { fits = number_low _ c.args.i 2 _ (omega arith) c.requires c.number.ensures }

pub returns : goal.returns
returns c = number_is _ c.args.i 2 _ (omega arith) c.requires c.number.ensures
