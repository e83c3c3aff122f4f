-- `times_end`: what is left after i turns (`left`), of any reader that tells where `next` ends.
-- Assumes nothing.
use Rattle.std.proofs.Common.{◌≡◌, ℕ, List, ◌<◌, drop}
use Rattle.values.specs.Value.{Reader, times}
use Rattle.values.specs.Answers.{place_after}
use Rattle.values.proofs.Turns.{left}
use Rattle.values.proofs.times_end.Given as goal

abbrev pub invariant-loop-i : goal.invariant-loop-i
invariant-loop-i g l =
    (0 < l.end)
    × goal.F-pre g l.next l.end
    × ((f : Reader) (s : List ℕ) → ((p r : ℕ) → goal.F-pre g l.next p → goal.F-post g l.next p r → r ≡ place_after p (f (drop p s))) → place_after l.at (times l.count f (drop l.at s)) ≡ left f s l.count l._i l.end)
