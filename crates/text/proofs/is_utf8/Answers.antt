-- `text::is_utf8` meets its contract. The invariant: s is UTF-8 just where what is left of it is.
-- Assumes nothing.
use borrow.Author.Rules.{rules}
use Rattle.text.proofs.Steps.{ascii_told, char_lies, char_smaller, text_goes_on, text_ends}
use Rattle.text.proofs.is_utf8.Goals as goal

ruleset steps = (ascii_told, char_lies, char_smaller, text_goes_on, text_ends, rules)

pub returns-then-is_ascii : goal.returns-then-is_ascii
returns-then-is_ascii c = search steps

pub slice_bounds-rest-count : goal.slice_bounds-rest-count
slice_bounds-rest-count c = search steps

pub slice_bounds-rest-start : goal.slice_bounds-rest-start
slice_bounds-rest-start c = search steps

pub loop-n-smaller : goal.loop-n-smaller
loop-n-smaller c = search steps

pub loop-n-preserved : goal.loop-n-preserved
loop-n-preserved c = search steps

pub returns : goal.returns
returns c = search steps
