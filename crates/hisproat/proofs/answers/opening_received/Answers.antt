-- `opening_received`: what the header was, and whether it was refused.
-- Assumes nothing.
use borrow.Author.Rules.{rules}
use Rattle.hisproat.proofs.Telling.{amounts_received}
use Rattle.hisproat.proofs.answers.opening_received.Goals as goal

pub returns : goal.returns
returns c = search (amounts_received, rules)
