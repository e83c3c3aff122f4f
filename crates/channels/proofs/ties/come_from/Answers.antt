-- `channels::ties::come_from` meets its contract: a law for each return.
-- Assumes nothing.
use borrow.Author.Rules.{rules}
use Rattle.channels.proofs.Links.{come_none}
use Rattle.channels.proofs.Tying.{comes_one}
use Rattle.channels.proofs.ties.come_from.Goals as goal

pub returns-then-next-eq0 : goal.returns-then-next-eq0
returns-then-next-eq0 c = search (come_none, rules)

pub returns : goal.returns
returns c = search (comes_one, rules)
