-- `lands`: the Close is awaited, answered, or neither.
-- Assumes nothing.
use borrow.Author.Rules.{rules}
use Rattle.engine.proofs.Taking.{took_awaiting, took_answered, took_read}
use Rattle.engine.proofs.ConnectionEngine.lands.Goals as goal

pub returns-in-Awaiting : goal.returns-in-Awaiting
returns-in-Awaiting c = search (took_awaiting, rules)

pub returns-then-is_answered : goal.returns-then-is_answered
returns-then-is_answered c = search (took_answered, rules)

pub returns : goal.returns
returns c = search (took_read, rules)
