-- The goals of the cycle, by a ruleset for each function.
-- Assumes nothing.
use borrow.Author.Rules.{rules}
use borrow.Author.Tests.{not-true, not-false}
use Rattle.values.proofs.Turns.{turn_first, turn_stop, turn_more, turn_last}
use Rattle.values.proofs.Places.{place_past}
use Rattle.values.proofs.Steps.{plain_yes, plain_deep, plains_deep, not_described, value_described, value_boolean, value_small, value_array, run_small, run_array, code_unknown, bodies_fixed, bodies_boolean, bodies_variable, bodies_list, bodies_map, bodies_array, run_one, one_value, value_shallow, run_past, run_shallow, run_describes, none_known, none_unknown, run_deep, described_shallow, described_off, described_on, next_in_is, items_array, items_each, as_run}
use Rattle.values.proofs.Compounds.{part_count, compound_off, count_in, from_some, from_in, compound_odd, compound_filled, compound_else}
use Rattle.values.proofs.+value.Goals as goal

ruleset code_end_steps = (run_small, run_array, code_unknown, bodies_fixed, bodies_boolean, bodies_variable, bodies_list, bodies_map, bodies_array, rules)

ruleset compound_end_steps = (not-true, not-false, part_count, compound_off, count_in, from_some, from_in, compound_odd, compound_filled, compound_else, rules)

ruleset compounds_end_steps = (turn_first, turn_stop, turn_more, turn_last, rules)

ruleset described_end_steps = (described_shallow, described_off, described_on, next_in_is, rules)

ruleset end_at_steps = (place_past, value_shallow, plain_yes, plain_deep, rules)

ruleset items_end_steps = (items_array, items_each, as_run, turn_stop, turn_more, turn_last, next_in_is, rules)

ruleset other_end_steps = (not_described, value_described, value_boolean, value_small, value_array, one_value, rules)

ruleset run_end_steps = (plain_yes, plains_deep, run_one, run_past, run_shallow, run_describes, none_known, none_unknown, run_deep, rules)

pub code_end-returns-in_default : goal.code_end-returns-in_default
code_end-returns-in_default t c = search code_end_steps

pub code_end-returns-in-Fixed : goal.code_end-returns-in-Fixed
code_end-returns-in-Fixed t c = search code_end_steps

pub code_end-returns-in-Boolean : goal.code_end-returns-in-Boolean
code_end-returns-in-Boolean t c = search code_end_steps

pub code_end-returns-in-Variable : goal.code_end-returns-in-Variable
code_end-returns-in-Variable t c = search code_end_steps

pub code_end-returns-in-List : goal.code_end-returns-in-List
code_end-returns-in-List t c = search code_end_steps

pub code_end-returns-in-Map : goal.code_end-returns-in-Map
code_end-returns-in-Map t c = search code_end_steps

pub code_end-returns-in-Array : goal.code_end-returns-in-Array
code_end-returns-in-Array t c = search code_end_steps

pub compound_end-returns-then-end-eq0 : goal.compound_end-returns-then-end-eq0
compound_end-returns-then-end-eq0 t c = search compound_end_steps

pub compound_end-number_at-count-requires : goal.compound_end-number_at-count-requires
compound_end-number_at-count-requires t c = search compound_end_steps

pub compound_end-returns-then-not-paired : goal.compound_end-returns-then-not-paired
compound_end-returns-then-not-paired t c = search compound_end_steps

pub compound_end-items_end-requires : goal.compound_end-items_end-requires
compound_end-items_end-requires t c = search compound_end_steps

pub compound_end-returns-then-items_end-end : goal.compound_end-returns-then-items_end-end
compound_end-returns-then-items_end-end t c = search compound_end_steps

pub compound_end-returns : goal.compound_end-returns
compound_end-returns t c = search compound_end_steps

pub compounds_end-returns-then-end-eq0 : goal.compounds_end-returns-then-end-eq0
compounds_end-returns-then-end-eq0 t c = search compounds_end_steps

pub compounds_end-loop-i-preserved : goal.compounds_end-loop-i-preserved
compounds_end-loop-i-preserved t c = search compounds_end_steps

pub compounds_end-returns : goal.compounds_end-returns
compounds_end-returns t c = search compounds_end_steps

pub described_end-returns-then-depth-eq0 : goal.described_end-returns-then-depth-eq0
described_end-returns-then-depth-eq0 t c = search described_end_steps

pub described_end-returns-then-next-eq0 : goal.described_end-returns-then-next-eq0
described_end-returns-then-next-eq0 t c = search described_end_steps

pub described_end-run_end-requires : goal.described_end-run_end-requires
described_end-run_end-requires t c = search described_end_steps

pub described_end-returns : goal.described_end-returns
described_end-returns t c = search described_end_steps

pub end_at-returns-then-s-at : goal.end_at-returns-then-s-at
end_at-returns-then-s-at t c = search end_at_steps

pub end_at-returns-then-depth-eq0 : goal.end_at-returns-then-depth-eq0
end_at-returns-then-depth-eq0 t c = search end_at_steps

pub end_at-returns-then-is_plain : goal.end_at-returns-then-is_plain
end_at-returns-then-is_plain t c = search end_at_steps

pub end_at-returns : goal.end_at-returns
end_at-returns t c = search end_at_steps

pub items_end-returns-then-matches : goal.items_end-returns-then-matches
items_end-returns-then-matches t c = search items_end_steps

pub items_end-loop-i-init : goal.items_end-loop-i-init
items_end-loop-i-init t c = search items_end_steps

pub items_end-returns-then-end-eq0 : goal.items_end-returns-then-end-eq0
items_end-returns-then-end-eq0 t c = search items_end_steps

pub items_end-loop-i-preserved : goal.items_end-loop-i-preserved
items_end-loop-i-preserved t c = search items_end_steps

pub items_end-returns : goal.items_end-returns
items_end-returns t c = search items_end_steps

pub run_end-returns-then-count-eq1 : goal.run_end-returns-then-count-eq1
run_end-returns-then-count-eq1 t c = search run_end_steps

pub run_end-returns-then-s-at : goal.run_end-returns-then-s-at
run_end-returns-then-s-at t c = search run_end_steps

pub run_end-returns-then-depth-eq0 : goal.run_end-returns-then-depth-eq0
run_end-returns-then-depth-eq0 t c = search run_end_steps

pub run_end-returns-then-c-eq0 : goal.run_end-returns-then-c-eq0
run_end-returns-then-c-eq0 t c = search run_end_steps

pub run_end-returns-then-is_known : goal.run_end-returns-then-is_known
run_end-returns-then-is_known t c = search run_end_steps

pub run_end-returns-then-count-eq0 : goal.run_end-returns-then-count-eq0
run_end-returns-then-count-eq0 t c = search run_end_steps

pub run_end-returns-then-depth-eq0-2 : goal.run_end-returns-then-depth-eq0-2
run_end-returns-then-depth-eq0-2 t c = search run_end_steps

pub run_end-returns-then-is_plain : goal.run_end-returns-then-is_plain
run_end-returns-then-is_plain t c = search run_end_steps

pub code_end-returns-then-c-eq-SMALL : goal.code_end-returns-then-c-eq-SMALL
code_end-returns-then-c-eq-SMALL t c = search code_end_steps

pub code_end-returns-then-c : goal.code_end-returns-then-c
code_end-returns-then-c t c = search code_end_steps

pub other_end-returns-then-c-eq0 : goal.other_end-returns-then-c-eq0
other_end-returns-then-c-eq0 t c = search other_end_steps

pub other_end-returns-then-c-eq86 : goal.other_end-returns-then-c-eq86
other_end-returns-then-c-eq86 t c = search other_end_steps

pub other_end-returns-then-c-eq-SMALL : goal.other_end-returns-then-c-eq-SMALL
other_end-returns-then-c-eq-SMALL t c = search other_end_steps

pub other_end-returns-then-c-eq224 : goal.other_end-returns-then-c-eq224
other_end-returns-then-c-eq224 t c = search other_end_steps

pub other_end-returns : goal.other_end-returns
other_end-returns t c = search other_end_steps
