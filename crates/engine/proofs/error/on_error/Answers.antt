-- `on_error`: the Close written, and the Close refused.
-- Assumes nothing.
use borrow.Author.Rules.{rules}
use Rattle.engine.proofs.Failing.{fails_closed, fails_unclosed}
use Rattle.engine.proofs.error.on_error.Goals as goal

pub returns-in-Ok : goal.returns-in-Ok
returns-in-Ok c = search (fails_closed, rules)

pub returns-in-Err : goal.returns-in-Err
returns-in-Err c = search (fails_unclosed, rules)
