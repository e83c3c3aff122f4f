-- `put_frame`: too little room, or all parts one after the other.
-- Assumes nothing.
use borrow.Author.Rules.{rules}
use Rattle.frame_reader.proofs.Laws.{frame_short, front_is, frame_laid}
use Rattle.frame_reader.proofs.put_frame.Goals as goal

pub returns-then-answer-lt-ANSWER_SIZE : goal.returns-then-answer-lt-ANSWER_SIZE
returns-then-answer-lt-ANSWER_SIZE c = search (frame_short, rules)

pub slice_bounds-number-end-2 : goal.slice_bounds-number-end-2
slice_bounds-number-end-2 c = search (front_is, rules)

pub returns : goal.returns
returns c =
    frame_laid c.args.frame.now _ _ _ _ _ _ _ _ _ _ _ c.if-answer-lt-ANSWER_SIZE.false c.put_number.ensures c.number.ensures.0 c.put_number-2.ensures c.put_number-3.ensures c.put_number-4.ensures c.number-2.ensures.0 c.put_number-5.ensures
