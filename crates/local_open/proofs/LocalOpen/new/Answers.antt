-- `new`: settings are taken as they are, or refused by their test.
-- Assumes nothing.
use borrow.Author.Rules.{rules}
use borrow.Author.Tests.{not-true, not-false}
use Rattle.local_open.proofs.Laws.{answered_taken, answered_refused}
use Rattle.local_open.proofs.LocalOpen.new.Goals as goal

ruleset steps = (answered_taken, answered_refused, not-true, not-false, rules)

pub returns-then-not-settings_ok : goal.returns-then-not-settings_ok
returns-then-not-settings_ok c = search steps

pub returns : goal.returns
returns c = search steps
