-- `make`: 8 for settings and for tables, and a connection that is fresh and sound.
-- Assumes nothing.
use Rattle.std.proofs.lemmas.Result.{err_from_is_err_and}
use borrow.Author.Tests.{not-true, not-false}
use Rattle.connection.proofs.Making.{makes_beyond, makes_uncovered, makes}
use Rattle.connection.proofs.make.Goals as goal

pub returns-in_err-open : goal.returns-in_err-open
returns-in_err-open c =
    let p = err_from_is_err_and c.from_residual.result c.from_residual.ensures.1 in
    rw (p.1, p.2) (makes_beyond c.args.role _ _ c.new.ensures _ _ c.in_err-open.was)

pub returns-then-not-covers : goal.returns-then-not-covers
returns-then-not-covers c = makes_uncovered c.args.role _ _ c.new.ensures _ _ c.in_ok-open.was _ c.covers.ensures (not-true _ c.if-not-covers.true-raw)

pub returns : goal.returns
returns c = makes c.args.role _ _ c.new.ensures _ _ c.in_ok-open.was _ c.covers.ensures _ _ c.new-2.ensures (not-false _ c.if-not-covers.false-raw)
