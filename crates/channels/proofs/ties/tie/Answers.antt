-- `channels::ties::tie` meets its contract: a law for each return.
-- Assumes nothing.
use native.Mathlib.Omega.{arith}
use borrow.Author.Rules.{rules}
use borrow.Author.Tests.{not-true}
use Rattle.channels.proofs.Tying.{top_covered, top_over, still_covered, tied_over, tied_short, tied}
use Rattle.channels.proofs.ties.tie.Goals as goal

pub returns-then-highest-outgoing : goal.returns-then-highest-outgoing
returns-then-highest-outgoing c = search (tied_over, rules)

pub returns-then-not-is_place : goal.returns-then-not-is_place
returns-then-not-is_place c = search (tied_short, not-true, rules)

pub unbind-requires : goal.unbind-requires
unbind-requires c = (
  top_covered _ _ _ _ c.is_place.ensures c.if-not-is_place.false _ (c.from-top.ensures, omega arith),
  top_over _ _ _ _ c.is_place.ensures c.if-not-is_place.false _ (c.from-top.ensures, omega arith) _ (c.from-k.ensures, omega arith),
)

pub push-requires : goal.push-requires
push-requires c = (
  still_covered _ _ _ _ c.is_place.ensures c.if-not-is_place.false _ (c.from-top.ensures, omega arith) _ (c.from-k.ensures, omega arith) _ c.unbind.ensures,
  search rules,
  top_over _ _ _ _ c.is_place.ensures c.if-not-is_place.false _ (c.from-top.ensures, omega arith) _ (c.from-k.ensures, omega arith),
  search rules,
)

pub returns : goal.returns
returns c =
    tied _ _ _ _ _ (omega arith) _ c.is_place.ensures c.if-not-is_place.false _ _ _ (c.from-top.ensures, omega arith) (c.from-k.ensures, omega arith) (c.from.ensures, omega arith) _ _
    c.unbind.ensures c.push.ensures
