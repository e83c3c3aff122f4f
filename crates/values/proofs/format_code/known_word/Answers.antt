-- `format_code/known_word`: one law for each answer.
-- Assumes nothing.
use borrow.Author.Rules.{rules}
use Rattle.values.proofs.Table.{known_1, known_2, known_3, known_else}
use Rattle.values.proofs.format_code.known_word.Goals as goal

ruleset steps = (known_1, known_2, known_3, known_else, rules)

pub returns-in-1 : goal.returns-in-1
returns-in-1 c = search steps

pub returns-in-2 : goal.returns-in-2
returns-in-2 c = search steps

pub returns-in-3 : goal.returns-in-3
returns-in-3 c = search steps

pub returns-in_default : goal.returns-in_default
returns-in_default c = search steps
