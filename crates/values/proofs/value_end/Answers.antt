-- `value_end`: the place after the value, from place 0 on.
-- Assumes nothing.
use borrow.Author.Rules.{rules}
use Rattle.values.proofs.Steps.{plain_yes, value_plain, value_empty, value_nowhere, value_is}
use Rattle.values.proofs.value_end.Goals as goal

ruleset steps = (plain_yes, value_plain, value_empty, value_nowhere, value_is, rules)

pub returns-then-s-eq0 : goal.returns-then-s-eq0
returns-then-s-eq0 c = search steps

pub returns-then-depth-eq0 : goal.returns-then-depth-eq0
returns-then-depth-eq0 c = search steps

pub returns-then-is_plain : goal.returns-then-is_plain
returns-then-is_plain c = search steps

pub returns : goal.returns
returns c = search steps
