-- `fields`: one turn for each field that is there. The loop's invariant is what is left to say (`Left`), by which letters (`From`), and where the value there
-- and the one before it begin.
-- Assumes nothing.
use native.Mathlib.Omega.{arith}
use borrow.Author.Rules.{rules}
use borrow.Author.Tests.{not-true, not-false}
use Rattle.performatives.proofs.Found.{next_is, skip_none, skip_next, skip_same}
use Rattle.performatives.proofs.Rows.{from_first, from_next, left_first, fields_many, fields_stop, field_ordered, field_inside, fields_any, fields_unfit, fields_fit, fields_least, fields_over, fields_all, last_none, last_is}
use Rattle.performatives.proofs.fields.fields.Goals as goal
use Rattle.performatives.proofs.fields.fields.Goals.{then-letter-ne-ANY+else-not-suits, else-letter-ne-ANY}

ruleset steps = (fields_many, fields_stop, field_ordered, field_inside, fields_any, fields_fit, fields_least, fields_over, fields_all, last_none, last_is, rules)

pub returns-then-count-gt14 : goal.returns-then-count-gt14
returns-then-count-gt14 c = search steps

pub rows_of-word-requires : goal.rows_of-word-requires
rows_of-word-requires c = search steps

pub loop-i-init : goal.loop-i-init
loop-i-init c = (omega arith, left_first _ _ _, skip_none _, skip_none _, from_first _)

pub end_at-end-requires : goal.end_at-end-requires
end_at-end-requires c = search steps

pub returns-then-end-eq0 : goal.returns-then-end-eq0
returns-then-end-eq0 c = search steps

pub slice_bounds-suits-count : goal.slice_bounds-suits-count
slice_bounds-suits-count c = search steps

pub slice_bounds-suits-start : goal.slice_bounds-suits-start
slice_bounds-suits-start c = search steps

pub slice_bounds-suits-end : goal.slice_bounds-suits-end
slice_bounds-suits-end c = search steps

pub suits-requires : goal.suits-requires
suits-requires c = search steps

pub returns-then-not-suits : goal.returns-then-not-suits
returns-then-not-suits c =
    last_none _ _ _ (fields_unfit _ _ _ _ _ c.loop-i.invariant.1 _ c.loop-i-test.true c.end_at-end.ensures c.if-end-eq0.false c.if-count-gt14.false _ _ c.rows_of-word.ensures c.loop-i.invariant.4 _ c.suits.ensures (not-true _ c.if-not-suits.true-raw))

pub loop-i-preserved : goal.loop-i-preserved
loop-i-preserved c = (
  search steps,
  elim c.if-letter-ne-ANY.branch [
    | then-letter-ne-ANY+else-not-suits w ↦ fields_fit _ _ _ _ _ c.loop-i.invariant.1 _ c.loop-i-test.true c.end_at-end.ensures c.if-end-eq0.false c.if-count-gt14.false _ _ c.rows_of-word.ensures c.loop-i.invariant.4 _ w.suits.ensures (not-false _ w.if-not-suits.false-raw)
    | else-letter-ne-ANY w ↦ search steps
  ],
  skip_next _ _ _ _ c.loop-i.invariant.2 (next_is _ _ _ c.end_at-end.ensures c.if-end-eq0.false),
  skip_same _ _ _ c.loop-i.invariant.2,
  from_next _ _ _ c.loop-i.invariant.4,
)

pub returns-then-count-word : goal.returns-then-count-word
returns-then-count-word c = search steps

pub returns-then-at-s : goal.returns-then-at-s
returns-then-at-s c = search steps

pub returns : goal.returns
returns c = search steps
