-- `sized_end`: one law for each answer.
-- Assumes nothing.
use borrow.Author.Rules.{rules}
use Rattle.values.proofs.Compounds.{sized_cut, sized_small, sized_is}
use Rattle.values.proofs.sized_end.Goals as goal

ruleset steps = (sized_cut, sized_small, sized_is, rules)

pub returns-then-left-w : goal.returns-then-left-w
returns-then-left-w c = search steps

pub returns-then-size-w : goal.returns-then-size-w
returns-then-size-w c = search steps

pub returns : goal.returns
returns c = search steps
