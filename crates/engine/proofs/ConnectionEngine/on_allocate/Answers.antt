-- `on_allocate`: 8, 20, what the connection refuses, and what it does.
-- Assumes nothing.
use borrow.Author.Rules.{rules}
use Rattle.engine.proofs.Bare.{bare_on, bare_not}
use Rattle.engine.proofs.Well.{allocate_8, allocate_20, allocate_refused, allocate_done}
use Rattle.engine.proofs.ConnectionEngine.on_allocate.Goals as goal

pub returns-then-not-is_covered : goal.returns-then-not-is_covered
returns-then-not-is_covered c =
    let n = c.not_allocated.ensures in
    (allocate_8 _ _ _ c.is_covered.ensures _ c.not_allocated.result c.if-not-is_covered.true-raw (n.0, n.2), search (bare_not, rules))

pub returns-then-is_ending : goal.returns-then-is_ending
returns-then-is_ending c =
    let n = c.not_allocated-then-is_ending.ensures in
    (allocate_20 _ _ _ c.is_covered.ensures _ c.is_ending.ensures _ c.not_allocated-then-is_ending.result c.if-not-is_covered.false-raw c.if-is_ending.true (n.0, n.2), search (bare_not, rules))

pub returns-in-Err : goal.returns-in-Err
returns-in-Err c =
    let n = c.not_allocated-in-Err.ensures in
    (allocate_refused _ _ _ c.is_covered.ensures _ c.is_ending.ensures _ _ _ _ _ c.not_allocated-in-Err.result c.if-not-is_covered.false-raw c.if-is_ending.false c.allocate_session-allocated.ensures c.in-Err.is (n.0, n.2), search (bare_not, rules))

pub returns : goal.returns
returns c =
    (allocate_done _ _ _ c.is_covered.ensures _ c.is_ending.ensures _ c.allocate_session-allocated.result.answer _ _ _ _ c.if-not-is_covered.false-raw c.if-is_ending.false c.allocate_session-allocated.ensures c.in_default.not-Err c.settle-engine.ensures c.running.ensures, search (bare_on, rules))
