-- `allocate_inner`: each answer in its numbers.
-- Assumes nothing.
use borrow.Author.Rules.{rules}
use Rattle.hisproat.proofs.Telling.{channel_inner, no_channel_inner}
use Rattle.hisproat.proofs.answers.allocate_inner.Goals as goal

pub returns-in-Ok : goal.returns-in-Ok
returns-in-Ok c = search (channel_inner, rules)

pub returns-in-Err : goal.returns-in-Err
returns-in-Err c = search (no_channel_inner, rules)
