-- `number`: the loop keeps the number of the bytes passed and its bound.
-- Assumes nothing.
use native.Mathlib.Omega.{arith}
use borrow.Author.Rules.{rules}
use Rattle.octets.proofs.Laws.{be_none}
use Rattle.octets.proofs.Steps.{times_fits, more_fits, more_low, more_is, eight_done, all_done}
use Rattle.octets.proofs.number.Goals as goal

ruleset steps = (times_fits, more_fits, eight_done, all_done, rules)

pub loop-i-init : goal.loop-i-init
loop-i-init c = (omega arith, omega arith, search be_none)

pub returns-then-i-eq8 : goal.returns-then-i-eq8
returns-then-i-eq8 c =
    let l = c.loop-i in
    eight_done c.args.s.now l.x l.i l.invariant.2 l.invariant.1 (omega arith) c.if-i-eq8.true

pub overflow_mul-x : goal.overflow_mul-x
overflow_mul-x c = times_fits c.loop-i.x c.loop-i.i (omega arith) c.loop-i.invariant.1

pub overflow_add-x : goal.overflow_add-x
overflow_add-x c = more_fits c.loop-i.x c.loop-i.i (omega arith) c.loop-i.invariant.1 c.wide.result (omega arith)

pub loop-i-preserved : goal.loop-i-preserved
loop-i-preserved c = (omega arith, search more_low, search more_is)

pub returns : goal.returns
returns c =
    let l = c.loop-i in
    all_done c.args.s.now l.x l.i l.invariant.2 l.invariant.1 (omega arith) l.invariant.0 (omega arith)
