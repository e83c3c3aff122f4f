-- `bodiless`: one law for each case.
-- Assumes nothing.
use borrow.Author.Rules.{rules}
use Rattle.connection.proofs.Reading.{bare_empty, bare_body}
use Rattle.connection.proofs.receiving.bodiless.Goals as goal

pub returns-in-Empty : goal.returns-in-Empty
returns-in-Empty c = search (bare_empty, rules)

pub returns-in-Body : goal.returns-in-Body
returns-in-Body c = search (bare_body, rules)
