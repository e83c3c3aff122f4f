-- `text_len`: by the two sizes of a size.
-- Assumes nothing.
use native.Mathlib.Omega.{arith}
use borrow.Author.Rules.{rules}
use Rattle.serializer.proofs.Laws.{text_len_short, text_len_long}
use Rattle.serializer.proofs.text_len.Goals as goal

ruleset steps = (text_len_short, text_len_long, rules)

pub overflow_add-result : goal.overflow_add-result
overflow_add-result c = search steps

pub returns-then-bs-le255 : goal.returns-then-bs-le255
returns-then-bs-le255 c = (search steps, omega arith)

pub overflow_add-result-2 : goal.overflow_add-result-2
overflow_add-result-2 c = search steps

pub returns : goal.returns
returns c = (search steps, omega arith)
