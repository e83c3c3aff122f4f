-- `receive_frame`: 8, a frame that is refused, one without a performative, and one with.
-- Assumes nothing.
use mathlib.Core.Path.{refl}
use borrow.Author.Rules.{rules}
use borrow.Author.Tests.{not-true, not-false}
use Rattle.connection.proofs.Tables.{frame_short, unread, bare, bodied, channel_low}
use Rattle.connection.proofs.Connection.receive_frame.Goals as goal

pub returns-then-not-is_covered : goal.returns-then-not-is_covered
returns-then-not-is_covered c = search (frame_short, not-true, rules)

pub returns-in-Err : goal.returns-in-Err
returns-in-Err c = search (unread, not-false, rules)

pub returns-in_default : goal.returns-in_default
returns-in_default c =
    bare _ _ _ _ _ c.is_covered.ensures (not-false _ c.if-not-is_covered.false-raw) _ _ c.reading_limit.ensures c.channel_max-highest.ensures _ c.read-read.ensures
    _ c.in-Ok.is _ c.in_default.not-Body c.bodiless.ensures

pub on_incoming-requires : goal.on_incoming-requires
on_incoming-requires c = search (channel_low, rules)

pub returns : goal.returns
returns c =
    bodied _ _ _ _ _ c.is_covered.ensures (not-false _ c.if-not-is_covered.false-raw) _ _ c.reading_limit.ensures c.channel_max-highest.ensures _ c.read-read.ensures
    _ c.in-Ok.is _ _ _ _ _ _ _ _ _ c.in-Body.is refl c.on_incoming.ensures
