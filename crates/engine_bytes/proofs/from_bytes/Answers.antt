-- `from_bytes`: a law for each return.
-- Assumes nothing.
use borrow.Author.Rules.{rules}
use Rattle.engine_bytes.proofs.Steps.{read_none, read_short, read_other, read_no_role, read_no_phase, read_no_state, read_all}
use Rattle.engine_bytes.proofs.from_bytes.Goals as goal

pub returns-then-s-lt-FIXED_SIZE : goal.returns-then-s-lt-FIXED_SIZE
returns-then-s-lt-FIXED_SIZE c = search (read_short, rules)

pub returns-then-four_at-ne-VERSION : goal.returns-then-four_at-ne-VERSION
returns-then-four_at-ne-VERSION c = search (read_other, rules)

pub returns-in_err-role : goal.returns-in_err-role
returns-in_err-role c = search (read_none, read_no_role, c.in_err-role.was, rules)

pub returns-in_err-phase : goal.returns-in_err-phase
returns-in_err-phase c = search (read_none, read_no_phase, c.in_ok-role.was, c.in_err-phase.was, rules)

pub returns-in_err-state : goal.returns-in_err-state
returns-in_err-state c = search (read_none, read_no_state, c.in_ok-role.was, c.in_ok-phase.was, c.in_err-state.was, rules)

pub returns : goal.returns
returns c = search (read_all, c.in_ok-role.was, c.in_ok-phase.was, c.in_ok-state.was, rules)
