-- `starts_with`: one law for each answer.
-- Assumes nothing.
use borrow.Author.Rules.{rules}
use Rattle.performatives.proofs.Codes.{starts_none, starts_any}
use Rattle.performatives.proofs.composite.starts_with.Goals as goal

ruleset steps = (starts_none, starts_any, rules)

pub returns-in-Some : goal.returns-in-Some
returns-in-Some c = starts_any _ _ c.in-Some.code.now _ c.in-Some.ensures.value c.contains.ensures.value

pub returns-in-None : goal.returns-in-None
returns-in-None c = search steps
