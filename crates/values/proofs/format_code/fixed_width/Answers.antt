-- `fixed_width`: the rule of the line, over all codes.
-- Assumes nothing.
use borrow.Author.Rules.{rules}
use Rattle.values.proofs.Table.{line_right, line_low}
use Rattle.values.proofs.format_code.fixed_width.Goals as goal

ruleset steps = (line_right, line_low, rules)

pub returns : goal.returns
returns c = search steps
