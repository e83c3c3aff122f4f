-- `heartbeat`: one law for each answer.
-- Assumes nothing.
use borrow.Author.Rules.{rules}
use Rattle.std.proofs.lemmas.Result.{err_from_is_err_and}
use Rattle.connection.proofs.Writing.{beats_not, beats_end, beats_silent, beats_writes, beats_written}
use Rattle.connection.proofs.sending.heartbeat.Goals as goal

pub returns-then-out-lt-OUTPUT_ROOM : goal.returns-then-out-lt-OUTPUT_ROOM
returns-then-out-lt-OUTPUT_ROOM c = search (beats_not, rules)

pub returns-then-is_end : goal.returns-then-is_end
returns-then-is_end c = search (beats_end, rules)

pub returns-then-is_silent : goal.returns-then-is_silent
returns-then-is_silent c = search (beats_silent, rules)

pub returns-in_err-n : goal.returns-in_err-n
returns-in_err-n c =
    let p = err_from_is_err_and c.from_residual.result c.from_residual.ensures.1 in
    rw (p.1, p.2) (beats_written _ _ (search rules) _ c.is_end.ensures c.if-is_end.false _ c.is_silent.ensures c.if-is_silent.false _ _ c.write_empty.ensures _ c.in_err-n.was)

pub returns : goal.returns
returns c = beats_writes _ _ (search rules) _ c.is_end.ensures c.if-is_end.false _ c.is_silent.ensures c.if-is_silent.false _ _ c.write_empty.ensures _ c.in_ok-n.was
