-- `is_close`: a frame that is refused, one without a performative, a Close, and every other performative.
-- Assumes nothing.
use borrow.Author.Rules.{rules}
use Rattle.engine.proofs.Reading.{close_unread, close_none, close_body_is, other_body}
use Rattle.engine.proofs.incoming.is_close.Goals as goal

pub returns-in_default : goal.returns-in_default
returns-in_default c = search (close_unread, rules)

pub returns-in_default-frame : goal.returns-in_default-frame
returns-in_default-frame c = search (close_none, rules)

pub returns-in-Close : goal.returns-in-Close
returns-in-Close c = search (close_body_is, rules)

pub returns-in_default-performative : goal.returns-in_default-performative
returns-in_default-performative c = search (other_body, rules)
