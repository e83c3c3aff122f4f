-- `row_named`: an arm for each row.
-- Assumes nothing.
use borrow.Author.Rules.{rules}
use Rattle.performatives.specs.Inner.{row_in, row_named}
use Rattle.performatives.proofs.Words.{row_is, row_else}
use Rattle.performatives.proofs.fields.row_named.Goals as goal

ruleset steps = (row_is, row_else, rules)

pub may-requires : goal.may-requires
may-requires c = search steps

pub may-requires-in-1 : goal.may-requires-in-1
may-requires-in-1 c = search steps

pub must-requires : goal.must-requires
must-requires c = search steps

pub may-requires-in-3 : goal.may-requires-in-3
may-requires-in-3 c = search steps

pub must-requires-in-4 : goal.must-requires-in-4
must-requires-in-4 c = search steps

pub defaults-requires : goal.defaults-requires
defaults-requires c = search steps

pub may-requires-in-6 : goal.may-requires-in-6
may-requires-in-6 c = search steps

pub defaults-requires-in-7 : goal.defaults-requires-in-7
defaults-requires-in-7 c = search steps

pub may-requires-in-8 : goal.may-requires-in-8
may-requires-in-8 c = search steps

pub returns-in-0 : goal.returns-in-0
unfolding row_named row_in
returns-in-0 c = search steps

pub returns-in-1 : goal.returns-in-1
unfolding row_named row_in
returns-in-1 c = search steps

pub returns-in-2 : goal.returns-in-2
unfolding row_named row_in
returns-in-2 c = search steps

pub returns-in-3 : goal.returns-in-3
unfolding row_named row_in
returns-in-3 c = search steps

pub returns-in-4 : goal.returns-in-4
unfolding row_named row_in
returns-in-4 c = search steps

pub returns-in-5 : goal.returns-in-5
unfolding row_named row_in
returns-in-5 c = search steps

pub returns-in-6 : goal.returns-in-6
unfolding row_named row_in
returns-in-6 c = search steps

pub returns-in-7 : goal.returns-in-7
unfolding row_named row_in
returns-in-7 c = search steps

pub returns-in-8 : goal.returns-in-8
unfolding row_named row_in
returns-in-8 c = search steps

pub returns-in_default : goal.returns-in_default
returns-in_default c = search steps
