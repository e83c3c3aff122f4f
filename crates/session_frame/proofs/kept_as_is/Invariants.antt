-- `kept_as_is`: the loop keeps what is kept of all fields by what is kept of those that are left.
-- Assumes nothing.
use mathlib.Core.Path.{◌≡◌}
use Prim.Native.Nat.{◌-◌}
use lib.ListN.{drop}
use Rattle.serializer.specs.Written.{trimmed}
use Rattle.session_frame.specs.Parts.{as_they_are, kept_of}
use Rattle.session_frame.proofs.Copied.{kept_with}
use Rattle.session_frame.proofs.kept_as_is.Given as goal

abbrev pub invariant-loop-i : goal.invariant-loop-i
invariant-loop-i l = kept_of (trimmed (as_they_are l.count l.s)) ≡ kept_with l.i l.at l.n l.len (trimmed (as_they_are (l.count - l.i) (drop l.at l.s)))
