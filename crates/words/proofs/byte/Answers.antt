-- `byte`: what a digit stands for is below 16.
-- Assumes nothing.
use native.Mathlib.Omega.{arith}
use Rattle.words.proofs.Laws.{worth_low}
use Rattle.words.proofs.byte.Goals as goal

pub overflow_mul-result : goal.overflow_mul-result
overflow_mul-result c = let h = worth_low _ _ _ c.digit.ensures c.unwrap_or.ensures in omega arith

pub overflow_add-result : goal.overflow_add-result
overflow_add-result c =
    let h = worth_low _ _ _ c.digit.ensures c.unwrap_or.ensures in
    let l = worth_low _ _ _ c.digit-2.ensures c.unwrap_or-2.ensures in
    omega arith

pub returns : goal.returns
returns c =
    let h = worth_low _ _ _ c.digit.ensures c.unwrap_or.ensures in
    let l = worth_low _ _ _ c.digit-2.ensures c.unwrap_or-2.ensures in
    omega arith
