-- `taken_inner`: each answer in its numbers.
-- Assumes nothing.
use borrow.Author.Rules.{rules}
use Rattle.hisproat.proofs.Telling.{nothing_inner, opened_inner, closed_inner, forward_inner, began_inner}
use Rattle.hisproat.proofs.answers.taken_inner.Goals as goal

pub returns-in-NothingToDo : goal.returns-in-NothingToDo
returns-in-NothingToDo c = search (nothing_inner, rules)

pub returns-in-Opened : goal.returns-in-Opened
returns-in-Opened c = search (opened_inner, rules)

pub returns-in-Closed : goal.returns-in-Closed
returns-in-Closed c = search (closed_inner, rules)

pub returns-in-Forward : goal.returns-in-Forward
returns-in-Forward c = search (forward_inner, rules)

pub returns-in-Began : goal.returns-in-Began
returns-in-Began c = search (began_inner, rules)
