-- The functions of the cycle of calls `value`. The measure is seven for each level of depth, and which of them it is. The loops' invariant: what is left after i
-- turns (`left`). The rest is in Steps and Compounds.
-- Assumes nothing.
use mathlib.Core.Path.{◌≡◌}
use Prim.Native.Nat.{◌+◌, ◌*◌, ◌<◌, ◌≤◌}
use lib.ListN.{length, drop}
use Rattle.values.specs.Value.{times, items, compound_end, run}
use Rattle.values.specs.Answers.{place_after, width_of, shape_of}
use Rattle.values.proofs.Turns.{left}
use Rattle.values.proofs.+value.Given as goal

abbrev pub decreases-code_end : goal.decreases-code_end
decreases-code_end l = 7 * l.depth

abbrev pub decreases-compound_end : goal.decreases-compound_end
decreases-compound_end l = 7 * l.depth + 5

abbrev pub decreases-compounds_end : goal.decreases-compounds_end
decreases-compounds_end l = 7 * l.depth + 6

abbrev pub decreases-described_end : goal.decreases-described_end
decreases-described_end l = 7 * l.depth + 4

abbrev pub decreases-end_at : goal.decreases-end_at
decreases-end_at l = 7 * l.depth + 2

abbrev pub decreases-items_end : goal.decreases-items_end
decreases-items_end l = 7 * l.depth + 4

abbrev pub decreases-other_end : goal.decreases-other_end
decreases-other_end l = 7 * l.depth + 1

abbrev pub decreases-run_end : goal.decreases-run_end
decreases-run_end l = 7 * l.depth + 3

abbrev pub invariant-compounds_end-loop-i : goal.invariant-compounds_end-loop-i
invariant-compounds_end-loop-i l = (0 < l.end) × (l.end ≤ length l.s) × (place_after l.at (times l.count (compound_end (run l.depth) (shape_of l.fn.shape) (width_of l.fn.width)) (drop l.at l.s)) ≡ left (compound_end (run l.depth) (shape_of l.fn.shape) (width_of l.fn.width)) l.s l.count l._i l.end)

abbrev pub invariant-items_end-loop-i : goal.invariant-items_end-loop-i
invariant-items_end-loop-i l = (0 < l.end) × (l.end ≤ length l.s) × (place_after l.at (items (run l.depth) (shape_of l.fn.shape) l.count (drop l.at l.s)) ≡ left (run l.depth 1) l.s l.count l._i l.end)
