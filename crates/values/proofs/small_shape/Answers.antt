-- `small_shape`: one law for each answer.
-- Assumes nothing.
use borrow.Author.Rules.{rules}
use Rattle.values.proofs.Plain.{small_list, small_map}
use Rattle.values.proofs.small_shape.Goals as goal

ruleset steps = (small_list, small_map, rules)

pub returns-then-c-eq0 : goal.returns-then-c-eq0
returns-then-c-eq0 c = search steps

pub returns-else-c-eq0 : goal.returns-else-c-eq0
returns-else-c-eq0 c = search steps
