-- `send_last`: with an error, and with none.
-- Assumes nothing.
use borrow.Author.Rules.{rules}
use Rattle.engine.proofs.Closing.{last_with, last_without}
use Rattle.engine.proofs.control.send_last.Goals as goal

pub returns-in-Some : goal.returns-in-Some
returns-in-Some c = search (last_with, rules)

pub returns-in-None : goal.returns-in-None
returns-in-None c = search (last_without, rules)
