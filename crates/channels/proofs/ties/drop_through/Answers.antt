-- `channels::ties::drop_through` meets its contract: a law for each return.
-- Assumes nothing.
use borrow.Author.Rules.{rules}
use borrow.Author.Tests.{not-true, not-false}
use native.Mathlib.Omega.{arith}
use Rattle.channels.proofs.Tying.{place_room}
use Rattle.channels.proofs.Dropping.{drops_short, drop_covered, drops_all}
use Rattle.channels.proofs.ties.drop_through.Goals as goal

pub returns-then-not-is_place : goal.returns-then-not-is_place
returns-then-not-is_place c = search (drops_short, not-true, rules)

pub field-first-requires : goal.field-first-requires
field-first-requires c = search (place_room, not-false, rules)

pub write-requires : goal.write-requires
write-requires c = search (place_room, not-false, rules)

pub drop_from-requires : goal.drop_from-requires
drop_from-requires c = (drop_covered _ _ _ _ c.is_place.ensures c.if-not-is_place.false _ (c.from.ensures, omega arith) _ _ _ _ c.write.ensures, search rules)

pub returns : goal.returns
returns c =
    drops_all _ _ _ _ c.is_place.ensures c.if-not-is_place.false _ (c.from-ch.ensures, omega arith) _ c.field-first.ensures _ c.write.ensures _ (c.from.ensures, omega arith) _
    c.drop_from.ensures
