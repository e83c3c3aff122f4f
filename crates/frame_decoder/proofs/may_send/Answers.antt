-- `may_send`: an arm for each performative.
-- Assumes nothing.
use Rattle.frame_decoder.specs.Answers.{may_send}
use Rattle.frame_decoder.proofs.may_send.Goals as goal

pub returns-in-Open : goal.returns-in-Open
unfolding may_send
returns-in-Open c = rw c.in-Open.is

pub returns-in-Begin : goal.returns-in-Begin
unfolding may_send
returns-in-Begin c = rw c.in-Begin.is

pub returns-in-Attach : goal.returns-in-Attach
unfolding may_send
returns-in-Attach c = rw c.in-Attach.is

pub returns-in-Flow : goal.returns-in-Flow
unfolding may_send
returns-in-Flow c = rw c.in-Flow.is

pub returns-in-Transfer : goal.returns-in-Transfer
unfolding may_send
returns-in-Transfer c = rw c.in-Transfer.is

pub returns-in-Disposition : goal.returns-in-Disposition
unfolding may_send
returns-in-Disposition c = rw c.in-Disposition.is

pub returns-in-Detach : goal.returns-in-Detach
unfolding may_send
returns-in-Detach c = rw c.in-Detach.is

pub returns-in-End : goal.returns-in-End
unfolding may_send
returns-in-End c = rw c.in-End.is

pub returns-in-Close : goal.returns-in-Close
unfolding may_send
returns-in-Close c = rw c.in-Close.is
