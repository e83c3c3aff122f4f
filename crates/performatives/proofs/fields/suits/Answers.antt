-- `suits`: by the row that the letter stands for.
-- Assumes nothing.
use borrow.Author.Rules.{rules}
use Rattle.performatives.proofs.Rows.{suits_past, suits_row}
use Rattle.performatives.proofs.fields.suits.Goals as goal

ruleset steps = (suits_past, suits_row, rules)

pub row_named-requires : goal.row_named-requires
row_named-requires c = search steps

pub returns-in_default : goal.returns-in_default
returns-in_default c = search steps

pub fits-requires : goal.fits-requires
fits-requires c = search steps

pub returns : goal.returns
returns c = suits_row _ _ _ _ _ _ c.in-Some.ensures c.fits.ensures
