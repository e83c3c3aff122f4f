-- `format_code/is_plain`: one law for each answer.
-- Assumes nothing.
use borrow.Author.Rules.{rules}
use Rattle.values.proofs.Table.{bit_of}
use Rattle.values.proofs.format_code.is_plain.Goals as goal

ruleset steps = (bit_of, rules)

pub returns : goal.returns
returns c = search steps
