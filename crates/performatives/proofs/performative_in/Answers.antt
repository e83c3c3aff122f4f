-- `performative_in`: the fields fit, and then by the descriptor.
-- Assumes nothing.
use mathlib.Core.Path.{refl, ◌∙◌}
use mathlib.Core.List.{[]}
use borrow.Author.Rules.{rules}
use Rattle.performatives.specs.Fields.{field_at, field_of, field_in, fields_of, fields_in}
use Rattle.performatives.specs.Performative.{rows_for, values_of, values_in}
use Rattle.performatives.specs.Inner.{rows_from}
use Rattle.performatives.proofs.Chosen.{unfit, other, open_given, begin_given, error_given, arm, open_values, begin_values, condition_values, says}
use Rattle.performatives.proofs.performative_in.Goals as goal

ruleset steps = (unfit, other, rules)

pub fields-requires : goal.fields-requires
fields-requires c = search steps

pub returns-in_err-last : goal.returns-in_err-last
returns-in_err-last c = rw c.from_residual.ensures (unfit _ _ _ _ _ c.in_err-last.ensures)

pub open-performative-requires : goal.open-performative-requires
open-performative-requires c = open_given _ _ _ 0 0 _ c.in_ok-last.ensures c.in-16.is

pub remote_channel-requires : goal.remote_channel-requires
remote_channel-requires c = begin_given _ _ _ 0 0 _ c.in_ok-last.ensures c.in-17.is

pub condition_in-requires : goal.condition_in-requires
unfolding field_at field_of field_in fields_of fields_in rows_from
condition_in-requires c = error_given _ _ _ _ 0 _ c.in_ok-last.ensures 22 2 c.in-22.is refl refl c.requires

pub condition_in-requires-in-23 : goal.condition_in-requires-in-23
unfolding field_at field_of field_in fields_of fields_in rows_from
condition_in-requires-in-23 c = error_given _ _ _ _ 0 _ c.in_ok-last.ensures 23 0 c.in-23.is refl refl c.requires

pub condition_in-requires-in-24 : goal.condition_in-requires-in-24
unfolding field_at field_of field_in fields_of fields_in rows_from
condition_in-requires-in-24 c = error_given _ _ _ _ 0 _ c.in_ok-last.ensures 24 0 c.in-24.is refl refl c.requires

pub returns-in_default : goal.returns-in_default
returns-in_default c = search steps

pub returns-in-16 : goal.returns-in-16
unfolding rows_for rows_from fields_of fields_in
returns-in-16 c = says c.open-performative.result _ _ _ c.open-performative.ensures ∙ arm _ _ _ _ _ _ c.in_ok-last.ensures 16 _ c.in-16.is refl (open_values _ _ _ _)

pub returns-in-17 : goal.returns-in-17
unfolding rows_for rows_from fields_of fields_in
returns-in-17 c = arm _ _ _ _ _ _ c.in_ok-last.ensures 17 _ c.in-17.is refl (λ fs e. c.remote_channel.ensures ∙ begin_values _ _ _ _ fs e)

pub returns-in-18 : goal.returns-in-18
unfolding rows_for rows_from fields_of fields_in values_of values_in
returns-in-18 c = arm _ _ _ _ _ _ c.in_ok-last.ensures 18 [] c.in-18.is refl (λ fs e. refl)

pub returns-in-19 : goal.returns-in-19
unfolding rows_for rows_from fields_of fields_in values_of values_in
returns-in-19 c = arm _ _ _ _ _ _ c.in_ok-last.ensures 19 [] c.in-19.is refl (λ fs e. refl)

pub returns-in-20 : goal.returns-in-20
unfolding rows_for rows_from fields_of fields_in values_of values_in
returns-in-20 c = arm _ _ _ _ _ _ c.in_ok-last.ensures 20 [] c.in-20.is refl (λ fs e. refl)

pub returns-in-21 : goal.returns-in-21
unfolding rows_for rows_from fields_of fields_in values_of values_in
returns-in-21 c = arm _ _ _ _ _ _ c.in_ok-last.ensures 21 [] c.in-21.is refl (λ fs e. refl)

pub returns-in-22 : goal.returns-in-22
unfolding rows_for rows_from fields_of fields_in values_of values_in
returns-in-22 c = arm _ _ _ _ _ _ c.in_ok-last.ensures 22 _ c.in-22.is refl (λ fs e. c.condition_in.ensures ∙ condition_values _ _ _ _ fs e 22 2)

pub returns-in-23 : goal.returns-in-23
unfolding rows_for rows_from fields_of fields_in values_of values_in
returns-in-23 c = arm _ _ _ _ _ _ c.in_ok-last.ensures 23 _ c.in-23.is refl (λ fs e. c.condition_in-in-23.ensures ∙ condition_values _ _ _ _ fs e 23 0)

pub returns-in-24 : goal.returns-in-24
unfolding rows_for rows_from fields_of fields_in values_of values_in
returns-in-24 c = arm _ _ _ _ _ _ c.in_ok-last.ensures 24 _ c.in-24.is refl (λ fs e. c.condition_in-in-24.ensures ∙ condition_values _ _ _ _ fs e 24 0)
