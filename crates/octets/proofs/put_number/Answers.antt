-- `put_number`: the loop goes from the last byte to the first; its invariant is `Laid`.
-- Assumes nothing.
use borrow.Author.Rules.{rules}
use Rattle.octets.proofs.Laws.{put_past}
use Rattle.octets.proofs.Steps.{number_over, laid_none, laid_more}
use Rattle.octets.proofs.put_number.Goals as goal

ruleset steps = (put_past, number_over, laid_none, laid_more, rules)

pub returns-then-out-at : goal.returns-then-out-at
returns-then-out-at c = search steps

pub returns-then-out-at-2 : goal.returns-then-out-at-2
returns-then-out-at-2 c = search steps

pub loop-i-init : goal.loop-i-init
loop-i-init c = search steps

pub loop-i-preserved : goal.loop-i-preserved
loop-i-preserved c = search steps
