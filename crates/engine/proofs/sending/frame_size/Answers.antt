-- `frame_size`: fewer than four bytes, and the first four.
-- Assumes nothing.
use borrow.Author.Rules.{rules}
use Rattle.engine.proofs.Refusals.{size_short, four_are, size_long}
use Rattle.engine.proofs.sending.frame_size.Goals as goal

pub returns-then-s-lt4 : goal.returns-then-s-lt4
returns-then-s-lt4 c = search (size_short, rules)

pub slice_bounds-number-end : goal.slice_bounds-number-end
slice_bounds-number-end c = search (four_are, rules)

pub returns : goal.returns
returns c = search (size_long, rules)
