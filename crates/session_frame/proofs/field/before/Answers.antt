-- `before`: a null before nothing is dropped.
-- Assumes nothing.
use Rattle.session_frame.proofs.Steps.{kept_some, kept_null, kept_last}
use borrow.Author.Rules.{rules}
use Rattle.session_frame.proofs.field.before.Goals as goal

ruleset steps = (kept_some, kept_null, kept_last, rules)

pub overflow_add-more : goal.overflow_add-more
overflow_add-more c = search steps

pub overflow_add-more-2 : goal.overflow_add-more-2
overflow_add-more-2 c = search steps

pub returns-then-rest-gt0 : goal.returns-then-rest-gt0
returns-then-rest-gt0 c = search steps

pub returns-then-field : goal.returns-then-field
returns-then-field c = search steps

pub returns : goal.returns
returns c = search steps
