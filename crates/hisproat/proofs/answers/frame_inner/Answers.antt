-- `frame_inner`: each answer in its numbers.
-- Assumes nothing.
use borrow.Author.Rules.{rules}
use Rattle.hisproat.proofs.Telling.{frame_inner, no_frame_inner}
use Rattle.hisproat.proofs.answers.frame_inner.Goals as goal

pub returns-in-Err : goal.returns-in-Err
returns-in-Err c = search (no_frame_inner, rules)

pub returns-in-Ok : goal.returns-in-Ok
returns-in-Ok c = search (frame_inner, rules)
