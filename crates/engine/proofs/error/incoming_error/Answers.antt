-- `incoming_error`: by the role, and the arm for all the others.
-- Assumes nothing.
use borrow.Author.Rules.{rules}
use Rattle.engine.proofs.Reading.{read_dialler, read_listener, read_transport}
use Rattle.engine.proofs.error.incoming_error.Goals as goal

pub returns-in-Dialler : goal.returns-in-Dialler
returns-in-Dialler c = search (read_dialler, rules)

pub returns-in-Listener : goal.returns-in-Listener
returns-in-Listener c = search (read_listener, rules)

pub returns-in_default : goal.returns-in_default
returns-in_default c = search (read_transport, rules)
