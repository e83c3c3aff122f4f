-- `digit`: a digit's place among the sixteen.
-- Assumes nothing.
use mathlib.Core.Path.{◌≡◌, sym, ◌∙◌}
use mathlib.Core.Bool.{true, false}
use borrow.Author.Rules.{rules}
use borrow.Author.Tests.{eq-eqb, ne_eqb}
use Rattle.std.proofs.lemmas.Iterator.{IsFirst-from_position, YieldsList-from_slice}
use Rattle.words.specs.Words.{is_byte, digits, digit_of}
use Rattle.words.proofs.Laws.{first_told}
use Rattle.words.proofs.digit.Goals as goal
use Rattle.words.proofs.digit.Goals.{After-position}

ruleset tests = (eq-eqb, ne_eqb, rules)

told : (c : After-position) → c.position.result ≡ digit_of c.args.b
unfolding digit_of
told c =
    first_told (is_byte c.args.b) digits c.position.result
    (IsFirst-from_position _ _ _ (λ d. is_byte c.args.b d ≡ true) (λ d. is_byte c.args.b d ≡ false) c.position.ensures.ran (YieldsList-from_slice digits (cc)) (λ x q k. search tests) (λ x q k. search tests))

pub returns-in_err-place : goal.returns-in_err-place
returns-in_err-place c =
    let e = told (goal.at.returns-in_err-place c).After-position in
    c.from_residual.ensures ∙ sym c.in_err-place.was ∙ e

pub returns : goal.returns
returns c = let e = told (goal.at.returns c).After-position in sym c.in_ok-place.was ∙ e
