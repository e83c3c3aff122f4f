-- `tick_inner`: each answer in its numbers.
-- Assumes nothing.
use borrow.Author.Rules.{rules}
use Rattle.hisproat.proofs.Telling.{tick_inner, end_inner, no_tick_inner}
use Rattle.hisproat.proofs.answers.tick_inner.Goals as goal

pub returns-in-Err : goal.returns-in-Err
returns-in-Err c = search (no_tick_inner, rules)

pub returns-in-Wrote : goal.returns-in-Wrote
returns-in-Wrote c = search (tick_inner, rules)

pub returns-in-Stop : goal.returns-in-Stop
returns-in-Stop c = search (end_inner, rules)
