-- `on_deallocate`: 8, 20, what the connection refuses, and what it does.
-- Assumes nothing.
use borrow.Author.Rules.{rules}
use Rattle.engine.proofs.Bare.{bare_on, bare_not}
use Rattle.engine.proofs.Well.{deallocate_8, deallocate_20, deallocate_refused, deallocate_done}
use Rattle.engine.proofs.ConnectionEngine.on_deallocate.Goals as goal

pub returns-then-not-is_covered : goal.returns-then-not-is_covered
returns-then-not-is_covered c =
    let n = c.not_deallocated.ensures in
    (deallocate_8 _ _ _ c.is_covered.ensures _ c.not_deallocated.result c.if-not-is_covered.true-raw (n.0, n.2), search (bare_not, rules))

pub returns-then-is_ending : goal.returns-then-is_ending
returns-then-is_ending c =
    let n = c.not_deallocated-then-is_ending.ensures in
    (deallocate_20 _ _ _ c.is_covered.ensures _ c.is_ending.ensures _ c.not_deallocated-then-is_ending.result c.if-not-is_covered.false-raw c.if-is_ending.true (n.0, n.2), search (bare_not, rules))

pub returns-in-Err : goal.returns-in-Err
returns-in-Err c =
    let n = c.not_deallocated-in-Err.ensures in
    (deallocate_refused _ _ _ c.is_covered.ensures _ c.is_ending.ensures _ _ _ _ _ c.not_deallocated-in-Err.result c.if-not-is_covered.false-raw c.if-is_ending.false c.deallocate_session-freed.ensures c.in-Err.is (n.0, n.2), search (bare_not, rules))

pub returns : goal.returns
returns c =
    (deallocate_done _ _ _ c.is_covered.ensures _ c.is_ending.ensures _ c.deallocate_session-freed.result.answer _ _ _ _ c.if-not-is_covered.false-raw c.if-is_ending.false c.deallocate_session-freed.ensures c.in_default.not-Err c.settle-engine.ensures c.running.ensures, search (bare_on, rules))
