-- `error_ok`: one test after the other.
-- Assumes nothing.
use borrow.Author.Rules.{rules}
use borrow.Author.Tests.{not-true, not-false}
use Rattle.frame_encoder.proofs.Steps.{condition_long, condition_no_text, condition_text}
use Rattle.frame_encoder.proofs.error_ok.Goals as goal

ruleset steps = (condition_long, condition_no_text, condition_text, not-true, not-false, rules)

pub returns-then-error-gt255 : goal.returns-then-error-gt255
returns-then-error-gt255 c = search steps

pub returns-then-not-is_ascii : goal.returns-then-not-is_ascii
returns-then-not-is_ascii c = search steps

pub returns : goal.returns
returns c = search steps
