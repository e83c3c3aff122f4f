-- `times_end`: what is left after i turns (`left`), of any reader that tells where `next` ends.
-- Assumes nothing.
use Rattle.std.proofs.Common.{arith}
use Rattle.values.proofs.Turns.{turn_stop, turn_more, turn_last}
use Rattle.values.proofs.times_end.Goals as goal

pub returns-then-end-eq0 : goal.returns-then-end-eq0
returns-then-end-eq0 g c =
    λ f s h.
    let inv = c.loop-i.invariant in
    turn_stop _ f s c.args.count c.loop-i._i c.loop-i.end (inv.2 f s h) c.next-end.result c.loop-i-test.true (h _ _ inv.1 c.next-end.ensures) inv.0 c.if-end-eq0.true

pub loop-i-preserved : goal.loop-i-preserved
loop-i-preserved g c =
    let inv = c.loop-i.invariant in (
      omega arith,
      c.requires.more _ _ inv.1 c.next-end.ensures c.if-end-eq0.false,
      λ f s h. turn_more _ f s c.args.count c.loop-i._i c.loop-i.end (inv.2 f s h) c.next-end.result c.loop-i-test.true (h _ _ inv.1 c.next-end.ensures) c.if-end-eq0.false,
    )

pub returns : goal.returns
returns g c = λ f s h. turn_last _ f s c.args.count c.loop-i._i c.loop-i.end (c.loop-i.invariant.2 f s h) c.loop-i-test.false
