-- `channels::ties::unbind` meets its contract: a law for each return.
-- Assumes nothing.
use borrow.Author.Rules.{rules}
use Rattle.channels.proofs.Tying.{unbinds_none, unbinds_one}
use Rattle.channels.proofs.ties.unbind.Goals as goal

pub returns-then-outgoing-eq0 : goal.returns-then-outgoing-eq0
returns-then-outgoing-eq0 c = search (unbinds_none, rules)

pub returns : goal.returns
returns c = search (unbinds_one, rules)
