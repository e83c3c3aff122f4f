-- `ticked`: the count, and what the tick answered.
-- Assumes nothing.
use borrow.Author.Rules.{rules}
use Rattle.hisproat.proofs.Telling.{amounts_ticked}
use Rattle.hisproat.proofs.answers.ticked.Goals as goal

pub returns : goal.returns
returns c = search (amounts_ticked, rules)
