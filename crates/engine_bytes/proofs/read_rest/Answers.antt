-- `read_rest`: a law for each return.
-- Assumes nothing.
use borrow.Author.Rules.{rules}
use Rattle.engine_bytes.proofs.Steps.{read_none, rest_no_open, rest_no_counts, rest_uncovered, rest_not_kept, rest_kept}
use Rattle.engine_bytes.proofs.read_rest.Goals as goal

pub returns-in_default : goal.returns-in_default
returns-in_default c = search (rest_no_open, rules)

pub returns-in_err-outgoing : goal.returns-in_err-outgoing
returns-in_err-outgoing c = search (read_none, rest_no_counts, c.in_err-outgoing.was, rules)

pub returns-then-not-covers : goal.returns-then-not-covers
returns-then-not-covers c = search (rest_uncovered, c.in_ok-outgoing.was, rules)

pub returns-in_err-connection : goal.returns-in_err-connection
returns-in_err-connection c = search (read_none, rest_not_kept, c.in_ok-outgoing.was, c.in_err-connection.was, rules)

pub returns : goal.returns
returns c =
    let a = c.args in
    rest_kept _ a.role a.phase a.state _ c.read_open.ensures _ c.in-Ok.is c.read_counts.result c.read_counts.ensures _ c.in_ok-outgoing.was _ c.channel_max.ensures _ c.covers.ensures c.if-not-covers.false-raw _ _ c.four_at-reading.ensures c.four_at.ensures _ c.resumed.ensures _ c.in_ok-connection.was _ c.resumed-2.ensures
