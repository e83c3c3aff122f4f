-- `kept_as_is`: the loop keeps what is kept of all fields by what is kept of those that are left.
-- Assumes nothing.
use borrow.Author.Rules.{rules}
use Rattle.session_frame.proofs.Copied.{kept_start, kept_all, kept_malformed, byte_in, kept_null, kept_some}
use Rattle.session_frame.proofs.kept_as_is.Goals.{then-s-at-ne64, else-s-at-ne64}
use Rattle.session_frame.proofs.kept_as_is.Goals as goal

ruleset steps = (kept_start, kept_all, kept_malformed, byte_in, kept_null, kept_some, rules)

pub loop-i-init : goal.loop-i-init
loop-i-init c = search steps

pub returns-then-end-eq0 : goal.returns-then-end-eq0
returns-then-end-eq0 c = search steps

pub bounds-s-at : goal.bounds-s-at
bounds-s-at c = search steps

pub loop-i-preserved : goal.loop-i-preserved
loop-i-preserved c = elim c.if-s-at-ne64.branch [ then-s-at-ne64 w ↦ search steps | else-s-at-ne64 w ↦ search steps ]

pub returns : goal.returns
returns c = search steps
