-- `tied_handle`: 8, and what was found.
-- Assumes nothing.
use borrow.Author.Tests.{not-true, not-false}
use Rattle.connection.proofs.Making.{looks_uncovered, looks_found}
use Rattle.connection.proofs.Connection.tied_handle.Goals as goal

pub returns-then-not-is_covered : goal.returns-then-not-is_covered
returns-then-not-is_covered c = λ id. looks_uncovered _ _ _ c.is_covered.ensures (not-true _ c.if-not-is_covered.true-raw)

pub returns : goal.returns
returns c = λ id. looks_found _ _ _ c.is_covered.ensures (not-false _ c.if-not-is_covered.false-raw) _ (c.tied_handle.ensures id)
