-- `is_null`: missing, or by its format code.
-- Assumes nothing.
use borrow.Author.Rules.{rules}
use Rattle.values.proofs.Missing.{null_missing, null_first}
use Rattle.values.proofs.null.is_null.Goals as goal

ruleset steps = (null_missing, null_first, rules)

pub returns-then-f-eq0 : goal.returns-then-f-eq0
returns-then-f-eq0 c = search steps

pub returns : goal.returns
returns c = search steps
