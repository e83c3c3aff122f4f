-- `code_of`: by the bits that the code has in the words, with the rule of all codes.
-- Assumes nothing.
use mathlib.Core.Path.{refl}
use borrow.Author.Rules.{rules}
use Rattle.values.specs.Value.{kind_in}
use Rattle.values.proofs.Table.{kind_named, entry, named_else}
use Rattle.values.proofs.format_code.code_of.Goals as goal

pub returns-in-1 : goal.returns-in-1
unfolding kind_named kind_in
returns-in-1 c = entry c.args.c _ _ (search rules) c.in-1.is refl

pub returns-in-2 : goal.returns-in-2
unfolding kind_named kind_in
returns-in-2 c = entry c.args.c _ _ (search rules) c.in-2.is refl

pub returns-in-3 : goal.returns-in-3
unfolding kind_named kind_in
returns-in-3 c = entry c.args.c _ _ (search rules) c.in-3.is refl

pub returns-in-4 : goal.returns-in-4
unfolding kind_named kind_in
returns-in-4 c = entry c.args.c _ _ (search rules) c.in-4.is refl

pub returns-in-5 : goal.returns-in-5
unfolding kind_named kind_in
returns-in-5 c = entry c.args.c _ _ (search rules) c.in-5.is refl

pub returns-in-6 : goal.returns-in-6
unfolding kind_named kind_in
returns-in-6 c = entry c.args.c _ _ (search rules) c.in-6.is refl

pub returns-in-7 : goal.returns-in-7
unfolding kind_named kind_in
returns-in-7 c = entry c.args.c _ _ (search rules) c.in-7.is refl

pub returns-in-8 : goal.returns-in-8
unfolding kind_named kind_in
returns-in-8 c = entry c.args.c _ _ (search rules) c.in-8.is refl

pub returns-in-9 : goal.returns-in-9
unfolding kind_named kind_in
returns-in-9 c = entry c.args.c _ _ (search rules) c.in-9.is refl

pub returns-in-10 : goal.returns-in-10
unfolding kind_named kind_in
returns-in-10 c = entry c.args.c _ _ (search rules) c.in-10.is refl

pub returns-in_default : goal.returns-in_default
returns-in_default c = entry c.args.c _ _ (search rules) refl (search named_else)
