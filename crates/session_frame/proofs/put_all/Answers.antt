-- `put_all`: as one part, or field by field.
-- Assumes nothing.
use borrow.Author.Rules.{rules}
use Rattle.session_frame.proofs.Copied.{part_counts, part_laid}
use Rattle.session_frame.proofs.put_all.Goals as goal

ruleset steps = (part_counts, part_laid, rules)

pub is_copied-requires : goal.is_copied-requires
is_copied-requires c = search steps

pub slice_bounds-copy-end : goal.slice_bounds-copy-end
slice_bounds-copy-end c = search steps

pub copy-requires : goal.copy-requires
copy-requires c = search steps

pub shape_of-out-then-is_copied : goal.shape_of-out-then-is_copied
shape_of-out-then-is_copied c = search steps

pub returns-then-is_copied : goal.returns-then-is_copied
returns-then-is_copied c = search steps

pub put_fields-requires : goal.put_fields-requires
put_fields-requires c = search steps

pub shape_of-out : goal.shape_of-out
shape_of-out c = search steps

pub returns : goal.returns
returns c = search steps
