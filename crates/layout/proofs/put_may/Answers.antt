-- `put_may`: a law for each return.
-- Assumes nothing.
use borrow.Author.Rules.{rules}
use Rattle.octets.proofs.Laws.{put_past}
use Rattle.layout.proofs.Laws.{may_over, may_laid}
use Rattle.layout.proofs.put_may.Goals as goal

ruleset steps = (put_past, may_over, may_laid, rules)

pub returns-then-out-at : goal.returns-then-out-at
returns-then-out-at c = search steps

pub returns-then-out-at-2 : goal.returns-then-out-at-2
returns-then-out-at-2 c = search steps

pub returns : goal.returns
returns c = search steps
