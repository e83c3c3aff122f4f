-- `deallocate_inner`: each answer in its numbers.
-- Assumes nothing.
use borrow.Author.Rules.{rules}
use Rattle.hisproat.proofs.Telling.{freed_inner, unfreed_inner}
use Rattle.hisproat.proofs.answers.deallocate_inner.Goals as goal

pub returns-in-Ok : goal.returns-in-Ok
returns-in-Ok c = search (freed_inner, rules)

pub returns-in-Err : goal.returns-in-Err
returns-in-Err c = search (unfreed_inner, rules)
