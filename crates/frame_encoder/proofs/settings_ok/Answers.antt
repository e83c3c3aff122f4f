-- `settings_ok`: one test after the other.
-- Assumes nothing.
use borrow.Author.Rules.{rules}
use borrow.Author.Tests.{not-true, not-false}
use Rattle.frame_encoder.proofs.Steps.{id_long, id_no_text, size_low, size_high, settings_last}
use Rattle.frame_encoder.proofs.settings_ok.Goals as goal

ruleset steps = (id_long, id_no_text, size_low, size_high, settings_last, not-true, not-false, rules)

pub returns-then-settings-gt255 : goal.returns-then-settings-gt255
returns-then-settings-gt255 c = search steps

pub returns-then-not-is_utf8 : goal.returns-then-not-is_utf8
returns-then-not-is_utf8 c = search steps

pub returns-then-settings-lt-MIN_MAX_FRAME_SIZE : goal.returns-then-settings-lt-MIN_MAX_FRAME_SIZE
returns-then-settings-lt-MIN_MAX_FRAME_SIZE c = search steps

pub returns-then-settings-gt-MAX_FRAME_SIZE : goal.returns-then-settings-gt-MAX_FRAME_SIZE
returns-then-settings-gt-MAX_FRAME_SIZE c = search steps

pub returns : goal.returns
returns c = search steps
