-- `unclosed`: by the refusal, and then by the state.
-- Assumes nothing.
use borrow.Author.Rules.{rules}
use Rattle.engine.proofs.Phases.{unclosed_else, unclosed_there, unclosed_elsewhere}
use Rattle.engine.proofs.error.unclosed.Goals as goal

pub returns-in_default : goal.returns-in_default
returns-in_default c = search (unclosed_else, rules)

pub returns-in-ClosePipe : goal.returns-in-ClosePipe
returns-in-ClosePipe c = search (unclosed_there, rules)

pub returns-in-CloseSent : goal.returns-in-CloseSent
returns-in-CloseSent c = search (unclosed_there, rules)

pub returns-in-Discarding : goal.returns-in-Discarding
returns-in-Discarding c = search (unclosed_there, rules)

pub returns-in-End : goal.returns-in-End
returns-in-End c = search (unclosed_there, rules)

pub returns-in_default-state : goal.returns-in_default-state
returns-in_default-state c = search (unclosed_elsewhere, rules)
