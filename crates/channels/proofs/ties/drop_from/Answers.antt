-- `channels::ties::drop_from` meets its contract: the loop's invariant and measure, and a law for each return.
-- Assumes nothing.
use mathlib.Core.Path.{ap}
use Prim.Native.Nat.{◌-◌}
use native.Mathlib.Omega.{arith}
use lib.ListN.{length}
use borrow.Author.Rules.{rules}
use Rattle.channels.proofs.Fields.{length_write}
use Rattle.channels.proofs.Dropping.{drop_less, drop_starts, drop_beyond, drop_foreign, drop_ends, drop_next}
use Rattle.channels.proofs.ties.drop_from.Goals as goal

ruleset steps = (drop_starts, drop_beyond, drop_foreign, drop_ends, drop_next, drop_less, rules)

pub loop-e-init : goal.loop-e-init
loop-e-init c = search steps

pub overflow_sub-at : goal.overflow_sub-at
overflow_sub-at c = search steps

pub shape_of-t-then-top-at : goal.shape_of-t-then-top-at
shape_of-t-then-top-at c = search steps

pub returns-then-top-at : goal.returns-then-top-at
returns-then-top-at c = search steps

pub field-requires : goal.field-requires
field-requires c = search steps

pub overflow_add-outgoing : goal.overflow_add-outgoing
overflow_add-outgoing c = search steps

pub shape_of-t-then-field-outgoing : goal.shape_of-t-then-field-outgoing
shape_of-t-then-field-outgoing c = search steps

pub returns-then-field-outgoing : goal.returns-then-field-outgoing
returns-then-field-outgoing c = search steps

pub field-e-requires : goal.field-e-requires
field-e-requires c = search steps

pub write-requires : goal.write-requires
write-requires c = search steps

pub loop-e-smaller : goal.loop-e-smaller
loop-e-smaller c =
    drop_less _ _ _ _ _ _ c.loop-e.invariant.0 (omega arith) c.field.ensures c.if-field-outgoing.false c.write.ensures

pub loop-e-preserved : goal.loop-e-preserved
loop-e-preserved c =
    let i = c.loop-e.invariant in
    let w = c.write.ensures in (
      omega (arith, i.0, ap length w, length_write c.loop-e.t (c.loop-e.e - 1) 3 0),
      drop_next _ 0 _ _ _ _ i.1 c.loop-e-test.true (omega arith) i.0 _ w _ c.field-e.ensures,
    )

pub shape_of-t : goal.shape_of-t
shape_of-t c = search steps

pub returns : goal.returns
returns c = search steps
