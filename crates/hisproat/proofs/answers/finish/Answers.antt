-- `finish`: a refusal, and the two ways to go on from an event.
-- Assumes nothing.
use borrow.Author.Rules.{rules}
use Rattle.hisproat.proofs.Laying.{finish_refused, finish_continue, finish_stop}
use Rattle.hisproat.proofs.answers.finish.Goals as goal

pub returns-in-Err : goal.returns-in-Err
returns-in-Err c = search (finish_refused, rules)

pub returns-in-Continue : goal.returns-in-Continue
returns-in-Continue c = search (finish_continue, rules)

pub returns-in-Stop : goal.returns-in-Stop
returns-in-Stop c = search (finish_stop, rules)
