-- `hex`: what has been laid down.
-- Assumes nothing.
use borrow.Author.Rules.{rules}
use Rattle.words.proofs.Laws.{laying_more, laying_done}
use Rattle.words.proofs.hex.Goals as goal

ruleset steps = (laying_more, laying_done, rules)

pub loop-i-preserved : goal.loop-i-preserved
loop-i-preserved c = search steps

pub returns : goal.returns
returns c = search steps
