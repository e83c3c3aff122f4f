-- `input_ends`: the input may end, or the error path.
-- Assumes nothing.
use borrow.Author.Rules.{rules}
use Rattle.engine.proofs.Landing.{ends_fine, ends_failing}
use Rattle.engine.proofs.ending.input_ends.Goals as goal

pub returns-then-may_end : goal.returns-then-may_end
returns-then-may_end c = search (ends_fine, rules)

pub returns : goal.returns
returns c = search (ends_failing, rules)
