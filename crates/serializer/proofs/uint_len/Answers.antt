-- `uint_len`: by the three forms of a uint.
-- Assumes nothing.
use native.Mathlib.Omega.{arith}
use borrow.Author.Rules.{rules}
use Rattle.serializer.proofs.Laws.{uint_len_none, uint_len_small, uint_len_large}
use Rattle.serializer.proofs.uint_len.Goals as goal

ruleset steps = (uint_len_none, uint_len_small, uint_len_large, rules)

pub returns-then-n-eq0 : goal.returns-then-n-eq0
returns-then-n-eq0 c = (search steps, omega arith)

pub returns-then-n-le255 : goal.returns-then-n-le255
returns-then-n-le255 c = (search steps, omega arith)

pub returns : goal.returns
returns c = (search steps, omega arith)
