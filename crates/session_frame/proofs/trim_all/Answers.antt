-- `trim_all`: as they are, or by their rows.
-- Assumes nothing.
use borrow.Author.Rules.{rules}
use Rattle.session_frame.proofs.Copied.{all_kept}
use Rattle.session_frame.proofs.trim_all.Goals as goal

ruleset steps = (all_kept, rules)

pub is_copied-requires : goal.is_copied-requires
is_copied-requires c = search steps

pub kept_as_is-requires : goal.kept_as_is-requires
kept_as_is-requires c = search steps

pub returns-then-is_copied : goal.returns-then-is_copied
returns-then-is_copied c = search steps

pub trim_fields-requires : goal.trim_fields-requires
trim_fields-requires c = search steps

pub returns : goal.returns
returns c = search steps
