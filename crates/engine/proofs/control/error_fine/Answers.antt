-- `error_fine`: with an error, and with none.
-- Assumes nothing.
use borrow.Author.Rules.{rules}
use Rattle.engine.proofs.Closing.{fine_with, fine_without}
use Rattle.engine.proofs.control.error_fine.Goals as goal

pub returns-in-Some : goal.returns-in-Some
returns-in-Some c = search (fine_with, rules)

pub returns-in-None : goal.returns-in-None
returns-in-None c = search (fine_without, rules)
