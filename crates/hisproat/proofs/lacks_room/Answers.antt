-- `lacks_room`: of a short answer, and else of the output.
-- Assumes nothing.
use borrow.Author.Rules.{rules}
use Rattle.hisproat.proofs.Crossings.{short_lacks, long_lacks}
use Rattle.hisproat.proofs.lacks_room.Goals as goal

pub returns-then-answer-lt-ANSWER_SIZE : goal.returns-then-answer-lt-ANSWER_SIZE
returns-then-answer-lt-ANSWER_SIZE c = search (short_lacks, rules)

pub returns : goal.returns
returns c = search (long_lacks, rules)
