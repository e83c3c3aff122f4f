-- `deallocate_session`: 8, and what the endpoint does.
-- Assumes nothing.
use borrow.Author.Rules.{rules}
use borrow.Author.Tests.{not-true, not-false}
use Rattle.connection.proofs.Tables.{deallocate_short, frees_does}
use Rattle.connection.proofs.Connection.deallocate_session.Goals as goal

pub returns-then-not-is_covered : goal.returns-then-not-is_covered
returns-then-not-is_covered c = search (deallocate_short, not-true, rules)

pub returns : goal.returns
returns c = search (frees_does, not-false, rules)
