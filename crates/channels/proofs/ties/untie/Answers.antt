-- `channels::ties::untie` meets its contract: a law for each return.
-- Assumes nothing.
use borrow.Author.Rules.{rules}
use borrow.Author.Tests.{not-true}
use native.Mathlib.Omega.{arith}
use Rattle.channels.proofs.Tying.{top_covered, top_over, untied_short, untied}
use Rattle.channels.proofs.ties.untie.Goals as goal

pub returns-then-not-is_place : goal.returns-then-not-is_place
returns-then-not-is_place c = search (untied_short, not-true, rules)

pub unbind-requires : goal.unbind-requires
unbind-requires c = (
  top_covered _ _ _ _ c.is_place.ensures c.if-not-is_place.false _ (c.from.ensures, omega arith),
  top_over _ _ _ _ c.is_place.ensures c.if-not-is_place.false _ (c.from.ensures, omega arith) _ (c.from-2.ensures, omega arith),
)

pub returns : goal.returns
returns c = untied _ _ _ _ c.is_place.ensures c.if-not-is_place.false _ _ (c.from.ensures, omega arith) (c.from-2.ensures, omega arith) _ c.unbind.ensures
