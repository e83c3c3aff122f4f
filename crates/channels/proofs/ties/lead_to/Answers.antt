-- `channels::ties::lead_to` meets its contract: a law for each return.
-- Assumes nothing.
use borrow.Author.Rules.{rules}
use Rattle.channels.proofs.Tying.{leads_first, leads_next}
use Rattle.channels.proofs.ties.lead_to.Goals as goal

pub returns-then-previous-eq0 : goal.returns-then-previous-eq0
returns-then-previous-eq0 c = search (leads_first, rules)

pub returns : goal.returns
returns c = search (leads_next, rules)
