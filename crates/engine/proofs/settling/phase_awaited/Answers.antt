-- `phase_awaited`: a law for each return.
-- Assumes nothing.
use borrow.Author.Rules.{rules}
use Rattle.engine.proofs.Reading.{awaited_refused, awaited_closed, awaited_on}
use Rattle.engine.proofs.settling.phase_awaited.Goals as goal

pub returns-in-Err : goal.returns-in-Err
returns-in-Err c = search (awaited_refused, rules)

pub returns-in-Closed : goal.returns-in-Closed
returns-in-Closed c = search (awaited_closed, rules)

pub returns : goal.returns
returns c = search (awaited_on, rules)
