-- `gone_out`: what was written, and the error path.
-- Assumes nothing.
use borrow.Author.Rules.{rules}
use Rattle.engine.proofs.Closing.{out_settles, out_fails}
use Rattle.engine.proofs.sending.gone_out.Goals as goal

pub returns-in-Ok : goal.returns-in-Ok
returns-in-Ok c = search (out_settles, rules)

pub returns-in-Err : goal.returns-in-Err
returns-in-Err c = search (out_fails, rules)
