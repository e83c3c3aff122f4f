-- `read_to`: the error path, and the frame read.
-- Assumes nothing.
use borrow.Author.Rules.{rules}
use Rattle.engine.proofs.Reading.{leads_failing, leads_on}
use Rattle.engine.proofs.incoming.read_to.Goals as goal

pub returns-in-Err : goal.returns-in-Err
returns-in-Err c = search (leads_failing, rules)

pub returns-in-Ok : goal.returns-in-Ok
returns-in-Ok c = search (leads_on, rules)
