-- `part`: one law for each return.
-- Assumes nothing.
use borrow.Author.Rules.{rules}
use Rattle.words.proofs.Laws.{part_turned, part_past, part_rest, part_whole}
use Rattle.words.proofs.part.Goals as goal

pub returns-then-end-from : goal.returns-then-end-from
returns-then-end-from c = search (part_turned, rules)

pub returns-then-s-from : goal.returns-then-s-from
returns-then-s-from c = search (part_past, rules)

pub returns-then-s-end : goal.returns-then-s-end
returns-then-s-end c = search (part_rest, rules)

pub returns : goal.returns
returns c = search (part_whole, rules)
