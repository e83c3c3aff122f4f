-- `opening_sent`: written, or refused.
-- Assumes nothing.
use borrow.Author.Rules.{rules}
use Rattle.hisproat.proofs.Telling.{amounts_sent, amounts_unsent}
use Rattle.hisproat.proofs.answers.opening_sent.Goals as goal

pub returns-in-Ok : goal.returns-in-Ok
returns-in-Ok c = search (amounts_sent, rules)

pub returns-in-Err : goal.returns-in-Err
returns-in-Err c = search (amounts_unsent, rules)
