-- `is_set`: anything but 0.
-- Assumes nothing.
use borrow.Author.Rules.{rules}
use Rattle.hisproat.proofs.Telling.{set_is}
use Rattle.hisproat.proofs.is_set.Goals as goal

pub returns : goal.returns
returns c = search (set_is, rules)
