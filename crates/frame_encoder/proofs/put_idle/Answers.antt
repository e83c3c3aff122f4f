-- `put_idle`: nothing, or a uint.
-- Assumes nothing.
use borrow.Author.Rules.{rules}
use Rattle.frame_encoder.proofs.Steps.{idle_never, idle_millis}
use Rattle.frame_encoder.proofs.put_idle.Goals as goal

ruleset steps = (idle_never, idle_millis, rules)

pub returns-in-None : goal.returns-in-None
returns-in-None c = search steps

pub returns-in-Some : goal.returns-in-Some
returns-in-Some c = search steps
