-- `allocate_session`: 8, 22, and what the endpoint does.
-- Assumes nothing.
use borrow.Author.Rules.{rules}
use borrow.Author.Tests.{not-true, not-false}
use Rattle.connection.proofs.Tables.{allocate_short, allocate_stopped, allocates}
use Rattle.connection.proofs.Connection.allocate_session.Goals as goal

pub returns-then-not-is_covered : goal.returns-then-not-is_covered
returns-then-not-is_covered c = search (allocate_short, not-true, rules)

pub returns-then-is_stopped : goal.returns-then-is_stopped
returns-then-is_stopped c = search (allocate_stopped, not-false, rules)

pub returns : goal.returns
returns c = search (allocates, not-false, rules)
