-- `put_answer`: too little room, or all parts one after the other.
-- Assumes nothing.
use borrow.Author.Rules.{rules}
use Rattle.hisproat.proofs.Laying.{answer_short, answer_laid}
use Rattle.hisproat.proofs.answers.put_answer.Goals as goal

pub returns-then-answer-lt-ANSWER_SIZE : goal.returns-then-answer-lt-ANSWER_SIZE
returns-then-answer-lt-ANSWER_SIZE c = search (answer_short, rules)

pub returns : goal.returns
returns c =
    answer_laid _ _ _ _ _ _ _ _ _ _ _ c.if-answer-lt-ANSWER_SIZE.false c.put_number.ensures c.put_number-2.ensures c.put_inner.ensures c.put_number-3.ensures c.put_number-4.ensures
