-- `on_heartbeat`: 9, 20, what the connection refuses, and what it does.
-- Assumes nothing.
use borrow.Author.Rules.{rules}
use Rattle.engine.proofs.Bare.{bare_on, bare_not}
use Rattle.engine.proofs.Well.{tick_9, tick_20, tick_refused, tick_done}
use Rattle.engine.proofs.ConnectionEngine.on_heartbeat.Goals as goal

pub returns-then-out-lt-OUTPUT_ROOM : goal.returns-then-out-lt-OUTPUT_ROOM
returns-then-out-lt-OUTPUT_ROOM c = search (tick_9, bare_not, rules)

pub returns-then-is_ending : goal.returns-then-is_ending
returns-then-is_ending c = search (tick_20, bare_not, rules)

pub returns-in-Err : goal.returns-in-Err
returns-in-Err c =
    let n = c.no_heartbeat-in-Err.ensures in
    (tick_refused _ _ c.is_ending.ensures _ _ _ _ _ c.no_heartbeat-in-Err.result c.if-is_ending.false c.tick-ticked.ensures c.in-Err.is (n.0, n.1), search (bare_not, rules))

pub returns : goal.returns
returns c = search (tick_done, bare_on, rules)
