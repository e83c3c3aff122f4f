-- `undelivered`: a law for each return.
-- Assumes nothing.
use borrow.Author.Rules.{rules}
use Rattle.engine.proofs.Landing.{undelivered_frame, undelivered_dialler, undelivered_session}
use Rattle.engine.proofs.ending.undelivered.Goals as goal

pub returns-then-not-new_session : goal.returns-then-not-new_session
returns-then-not-new_session c = search (undelivered_frame, rules)

pub returns-in-Dialler : goal.returns-in-Dialler
returns-in-Dialler c = search (undelivered_dialler, rules)

pub returns-in-Listener : goal.returns-in-Listener
returns-in-Listener c = search (undelivered_session, rules)
