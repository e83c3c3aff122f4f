-- `text_start`: by the format code.
-- Assumes nothing.
use Rattle.session_frame.specs.Parts.{text_start}
use Rattle.session_frame.proofs.field.text_start.Goals as goal

pub returns-then-starts_with : goal.returns-then-starts_with
unfolding text_start
returns-then-starts_with c = rw (← c.starts_with.ensures, c.if-starts_with.true)

pub returns : goal.returns
unfolding text_start
returns c = rw (← c.starts_with.ensures, c.if-starts_with.false)
