-- `hisproat_read_frame`: too little room, or what the frame comes to.
-- Assumes nothing.
use borrow.Author.Rules.{rules}
use Rattle.frame_reader.proofs.Laws.{told_short, told_refused, empty_long, told_empty, body_long, told_body}
use Rattle.frame_reader.proofs.hisproat_read_frame.Goals as goal

ruleset steps = (told_short, told_refused, empty_long, told_empty, body_long, told_body, rules)

pub returns-then-answer-lt-ANSWER_SIZE : goal.returns-then-answer-lt-ANSWER_SIZE
returns-then-answer-lt-ANSWER_SIZE c = search steps

pub returns-in-Err : goal.returns-in-Err
returns-in-Err c = search steps

pub put_frame-requires : goal.put_frame-requires
put_frame-requires c = search steps

pub put_frame-requires-in-Body : goal.put_frame-requires-in-Body
put_frame-requires-in-Body c = search steps

pub returns-in-Empty : goal.returns-in-Empty
returns-in-Empty c = search steps

pub returns-in-Body : goal.returns-in-Body
returns-in-Body c = search steps
