-- `fields`: one turn for each field that is there. The loop's invariant is what is left to say (`Left`), by which letters (`From`), and where the value there
-- and the one before it begin.
-- Assumes nothing.
use Prim.Native.Nat.{◌-◌, ◌≤◌}
use lib.ListN.{length}
use mathlib.Core.Path.{◌≡◌}
use Rattle.performatives.specs.Inner.{skip}
use Rattle.performatives.proofs.Rows.{From, Left}
use Rattle.performatives.proofs.fields.fields.Given as goal

abbrev pub invariant-loop-i : goal.invariant-loop-i
invariant-loop-i l = (l.at ≤ length l.s) × Left l.code l.count l.s l._i l.at × (l.at ≡ skip l._i l.s) × (l.last ≡ skip (l._i - 1) l.s) × From l.word l._i l.rows
