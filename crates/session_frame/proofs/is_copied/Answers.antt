-- `is_copied`: one law for each answer.
-- Assumes nothing.
use borrow.Author.Rules.{rules}
use Rattle.session_frame.proofs.Copied.{copied_low, copied_high}
use Rattle.session_frame.proofs.is_copied.Goals as goal

ruleset steps = (copied_low, copied_high, rules)

pub returns-then-code-lt18 : goal.returns-then-code-lt18
returns-then-code-lt18 c = search steps

pub returns : goal.returns
returns c = search steps
