-- `field_row`: by the letter that the word has for the field.
-- Assumes nothing.
use borrow.Author.Rules.{rules}
use Rattle.performatives.proofs.Table.{row_past}
use Rattle.performatives.proofs.Words.{field_is}
use Rattle.performatives.proofs.field_row.Goals as goal

ruleset steps = (row_past, field_is, rules)

pub returns-then-i-ge14 : goal.returns-then-i-ge14
returns-then-i-ge14 c = search steps

pub rows_of-requires : goal.rows_of-requires
rows_of-requires c = search steps

pub overflow_mul-i : goal.overflow_mul-i
overflow_mul-i c = search steps

pub overflow_shr-rows_of : goal.overflow_shr-rows_of
overflow_shr-rows_of c = search steps

pub row_named-requires : goal.row_named-requires
row_named-requires c = search steps

pub returns : goal.returns
returns c = search steps
