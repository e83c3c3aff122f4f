-- `format_code/plain_word`: one law for each answer.
-- Assumes nothing.
use borrow.Author.Rules.{rules}
use Rattle.values.proofs.Table.{plain_0, plain_1, plain_2, plain_else}
use Rattle.values.proofs.format_code.plain_word.Goals as goal

ruleset steps = (plain_0, plain_1, plain_2, plain_else, rules)

pub returns-in-0 : goal.returns-in-0
returns-in-0 c = search steps

pub returns-in-1 : goal.returns-in-1
returns-in-1 c = search steps

pub returns-in-2 : goal.returns-in-2
returns-in-2 c = search steps

pub returns-in_default : goal.returns-in_default
returns-in_default c = search steps
