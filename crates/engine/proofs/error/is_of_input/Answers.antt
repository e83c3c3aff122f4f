-- `is_of_input`: the arm for all the others.
-- Assumes nothing.
use borrow.Author.Rules.{rules}
use Rattle.engine.proofs.Refusals.{of_input}
use Rattle.engine.proofs.error.is_of_input.Goals as goal

pub returns-in_default : goal.returns-in_default
returns-in_default c = search (of_input, rules)
