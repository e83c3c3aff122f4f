-- `endpoint::Endpoint::receive` meets its contract: a law for each of the two refusals, one for a channel that the peer may use, and in there one for a Begin and one for every other performative.
-- Assumes nothing.
use borrow.Author.Rules.{rules}
use borrow.Author.Tests.{not-true, not-false}
use Rattle.endpoint.proofs.Receiving.{beyond, within, not_read, in_begin, in_arm}
use Rattle.endpoint.proofs.Endpoint.receive.Goals as goal

ruleset steps = (not_read, in_begin, in_arm, not-true, not-false, rules)

pub returns-then-channel_max-frame : goal.returns-then-channel_max-frame
returns-then-channel_max-frame c = beyond _ _ _ _ c.channel_max.ensures c.refused.result c.if-channel_max-frame.true c.refused.ensures.0 c.refused.ensures.1

pub returns-then-not-takes_session_frames : goal.returns-then-not-takes_session_frames
returns-then-not-takes_session_frames c = within _ _ _ _ c.channel_max.ensures c.if-channel_max-frame.false (search steps)

pub returns-in-Open : goal.returns-in-Open
returns-in-Open c = within _ _ _ _ c.channel_max.ensures c.if-channel_max-frame.false (search steps)

pub returns-in-Begin : goal.returns-in-Begin
returns-in-Begin c = within _ _ _ _ c.channel_max.ensures c.if-channel_max-frame.false (search steps)

pub returns-in-Attach : goal.returns-in-Attach
returns-in-Attach c = within _ _ _ _ c.channel_max.ensures c.if-channel_max-frame.false (search steps)

pub returns-in-Flow : goal.returns-in-Flow
returns-in-Flow c = within _ _ _ _ c.channel_max.ensures c.if-channel_max-frame.false (search steps)

pub returns-in-Transfer : goal.returns-in-Transfer
returns-in-Transfer c = within _ _ _ _ c.channel_max.ensures c.if-channel_max-frame.false (search steps)

pub returns-in-Disposition : goal.returns-in-Disposition
returns-in-Disposition c = within _ _ _ _ c.channel_max.ensures c.if-channel_max-frame.false (search steps)

pub returns-in-Detach : goal.returns-in-Detach
returns-in-Detach c = within _ _ _ _ c.channel_max.ensures c.if-channel_max-frame.false (search steps)

pub returns-in-End : goal.returns-in-End
returns-in-End c = within _ _ _ _ c.channel_max.ensures c.if-channel_max-frame.false (search steps)

pub returns-in-Close : goal.returns-in-Close
returns-in-Close c = within _ _ _ _ c.channel_max.ensures c.if-channel_max-frame.false (search steps)
