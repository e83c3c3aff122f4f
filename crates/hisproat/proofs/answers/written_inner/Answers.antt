-- `written_inner`: each answer in its numbers.
-- Assumes nothing.
use borrow.Author.Rules.{rules}
use Rattle.hisproat.proofs.Telling.{wrote_inner, unwritten_inner}
use Rattle.hisproat.proofs.answers.written_inner.Goals as goal

pub returns-in-Ok : goal.returns-in-Ok
returns-in-Ok c = search (wrote_inner, rules)

pub returns-in-Err : goal.returns-in-Err
returns-in-Err c = search (unwritten_inner, rules)
