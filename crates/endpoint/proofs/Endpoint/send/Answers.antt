-- `endpoint::Endpoint::send` meets its contract: the refusals in their order, and then the writing.
-- Assumes nothing.
use borrow.Author.Rules.{rules}
use borrow.Author.Tests.{not-true, not-false}
use Rattle.connection_state.specs.Answers.{state_says}
use Rattle.endpoint.proofs.Sending.{send_small, send_unread, send_bare, send_20, send_low, send_untied, send_on}
use Rattle.endpoint.proofs.Endpoint.send.Goals as goal

ruleset steps = (send_small, send_unread, send_bare, send_20, not-true, not-false, rules)

pub returns-then-out-lt16384 : goal.returns-then-out-lt16384
returns-then-out-lt16384 c = search steps

pub returns-in-Err : goal.returns-in-Err
returns-in-Err c = search steps

pub returns-in_default : goal.returns-in_default
returns-in_default c = send_bare _ _ (state_says c.args.state) _ _ c.if-out-lt16384.false _ c.channel_max-highest.ensures _ c.session_frame.ensures _ _ c.in-Ok.is c.in_default.not-Body

pub returns-then-not-sends_session_frames : goal.returns-then-not-sends_session_frames
returns-then-not-sends_session_frames c = search steps

pub write_tied-requires : goal.write_tied-requires
write_tied-requires c =
    send_low _ _ _ _ c.channel_max-highest.ensures _ c.session_frame.ensures _ c.in-Ok.is _ _ _ _ _ c.in-Body.is
    c.outgoing_tie.ensures _ c.in-Ok-outgoing_tie.is

pub returns-in-Err-outgoing_tie : goal.returns-in-Err-outgoing_tie
returns-in-Err-outgoing_tie c =
    send_untied _ _ (state_says c.args.state) _ _ c.if-out-lt16384.false _ c.channel_max-highest.ensures _ c.session_frame.ensures
    _ c.in-Ok.is _ _ _ _ _ c.in-Body.is _ c.sends_session_frames.ensures (not-false _ c.if-not-sends_session_frames.false-raw) c.outgoing_tie.ensures
    _ _ c.in-Err-outgoing_tie.is c.not_sent-in-Err-outgoing_tie.ensures

pub returns-in-Ok-outgoing_tie : goal.returns-in-Ok-outgoing_tie
returns-in-Ok-outgoing_tie c =
    send_on _ _ (state_says c.args.state) _ _ c.if-out-lt16384.false _ c.channel_max-highest.ensures _ c.session_frame.ensures
    _ c.in-Ok.is _ _ _ _ _ c.in-Body.is _ c.sends_session_frames.ensures (not-false _ c.if-not-sends_session_frames.false-raw) c.outgoing_tie.ensures
    _ c.in-Ok-outgoing_tie.is _ _ _ _ c.write_tied.ensures
