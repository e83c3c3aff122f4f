-- `landed_out`: one law for its one return.
-- Assumes nothing.
use borrow.Author.Rules.{rules}
use Rattle.engine.proofs.Closing.{lands_out}
use Rattle.engine.proofs.sending.landed_out.Goals as goal

pub returns : goal.returns
returns c = search (lands_out, rules)
