-- `session_body`: one law for each answer.
-- Assumes nothing.
use borrow.Author.Rules.{rules}
use borrow.Author.Tests.{not-true, not-false}
use Rattle.frame_decoder.proofs.Steps.{session_malformed, session_not, session_above, session_body_lem}
use Rattle.frame_decoder.proofs.session_body.Goals as goal

ruleset steps = (session_malformed, session_not, session_above, session_body_lem, not-true, not-false, rules)

pub read-requires : goal.read-requires
read-requires c = search steps

pub returns-in_default : goal.returns-in_default
returns-in_default c = search steps

pub may_send-requires : goal.may_send-requires
may_send-requires c = search steps

pub returns-then-not-may_send : goal.returns-then-not-may_send
returns-then-not-may_send c = search steps

pub begins_within-requires : goal.begins_within-requires
begins_within-requires c = search steps

pub returns-then-not-begins_within : goal.returns-then-not-begins_within
returns-then-not-begins_within c = search steps

pub returns : goal.returns
returns c =
    session_body_lem _ _ _ _ _ _ c.in-Some.ensures
    _ c.may_send.ensures (not-false _ c.if-not-may_send.false-raw)
    _ c.begins_within.ensures (not-false _ c.if-not-begins_within.false-raw)
