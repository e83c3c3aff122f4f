-- `next`: the place after a value, where there is one.
-- Assumes nothing.
use borrow.Author.Rules.{rules}
use Rattle.performatives.proofs.Found.{next_none, next_is}
use Rattle.performatives.proofs.values_of.next.Goals as goal

ruleset steps = (next_none, next_is, rules)

pub end_at-end-requires : goal.end_at-end-requires
end_at-end-requires c = search steps

pub returns-then-end-eq0 : goal.returns-then-end-eq0
returns-then-end-eq0 c = search steps

pub returns : goal.returns
returns c = search steps
