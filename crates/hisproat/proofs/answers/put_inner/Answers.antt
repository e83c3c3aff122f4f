-- `put_inner`: too little room, or all parts one after the other.
-- Assumes nothing.
use borrow.Author.Rules.{rules}
use Rattle.hisproat.proofs.Laying.{inner_short, inner_laid}
use Rattle.hisproat.proofs.answers.put_inner.Goals as goal

pub returns-then-answer-lt26 : goal.returns-then-answer-lt26
returns-then-answer-lt26 c = search (inner_short, rules)

pub returns : goal.returns
returns c =
    inner_laid _ _ _ _ _ _ _ _ _ _ _ _ _ _ c.number.ensures c.if-answer-lt26.false c.put_number.ensures c.put_number-2.ensures c.put_number-3.ensures c.put_number-4.ensures c.put_number-5.ensures c.put_number-6.ensures
