-- `first_len`: where the value ends.
-- Assumes nothing.
use Rattle.session_frame.proofs.Steps.{first_missing, first_ends}
use borrow.Author.Rules.{rules}
use Rattle.session_frame.proofs.first_len.Goals as goal

ruleset steps = (first_missing, first_ends, rules)

pub returns-then-count-eq0 : goal.returns-then-count-eq0
returns-then-count-eq0 c = search steps

pub value_end-requires : goal.value_end-requires
value_end-requires c = search steps

pub returns : goal.returns
returns c = search steps
