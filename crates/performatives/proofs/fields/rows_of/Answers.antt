-- `rows_of`: each word has its rows.
-- Assumes nothing.
use borrow.Author.Rules.{rules}
use Rattle.performatives.proofs.Words.{word_is, word_none}
use Rattle.performatives.proofs.fields.rows_of.Goals as goal

ruleset steps = (word_is, word_none, rules)

pub returns-in-16 : goal.returns-in-16
returns-in-16 c = search steps

pub returns-in-17 : goal.returns-in-17
returns-in-17 c = search steps

pub returns-in-18 : goal.returns-in-18
returns-in-18 c = search steps

pub returns-in-19 : goal.returns-in-19
returns-in-19 c = search steps

pub returns-in-20 : goal.returns-in-20
returns-in-20 c = search steps

pub returns-in-21 : goal.returns-in-21
returns-in-21 c = search steps

pub returns-in-22 : goal.returns-in-22
returns-in-22 c = search steps

pub returns-in-23 : goal.returns-in-23
returns-in-23 c = search steps

pub returns-in-24 : goal.returns-in-24
returns-in-24 c = search steps

pub returns-in_default : goal.returns-in_default
returns-in_default c = search steps
