-- `is_short`: byte by byte.
-- Assumes nothing.
use borrow.Author.Rules.{rules}
use Rattle.performatives.proofs.Short.{short_few, short_other, short_long, short_is}
use Rattle.performatives.proofs.composite.is_short.Goals as goal

ruleset steps = (short_few, short_other, short_long, short_is, rules)

pub returns-then-s-lt6 : goal.returns-then-s-lt6
returns-then-s-lt6 c = search steps

pub bounds-s-0 : goal.bounds-s-0
bounds-s-0 c = search steps

pub returns-then-s-ne0 : goal.returns-then-s-ne0
returns-then-s-ne0 c = search steps

pub bounds-s-1 : goal.bounds-s-1
bounds-s-1 c = search steps

pub returns-then-s-ne83 : goal.returns-then-s-ne83
returns-then-s-ne83 c = search steps

pub bounds-s-3 : goal.bounds-s-3
bounds-s-3 c = search steps

pub returns : goal.returns
returns c = search steps
