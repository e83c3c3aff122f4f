-- `remote_channel`: null, or the bytes after the format code.
-- Assumes nothing.
use borrow.Author.Rules.{rules}
use Rattle.performatives.proofs.Numbers.{channel_null, channel_some, channel_fits, channel_is}
use Rattle.performatives.proofs.remote_channel.Goals as goal

ruleset steps = (channel_null, channel_some, channel_fits, channel_is, rules)

pub item-f-requires : goal.item-f-requires
item-f-requires c = search steps

pub is_null-requires : goal.is_null-requires
is_null-requires c = search steps

pub returns-then-is_null : goal.returns-then-is_null
returns-then-is_null c = search steps

pub slice_bounds-number-count : goal.slice_bounds-number-count
slice_bounds-number-count c = search steps

pub slice_bounds-number-start : goal.slice_bounds-number-start
slice_bounds-number-start c = search steps

pub slice_bounds-number-end : goal.slice_bounds-number-end
slice_bounds-number-end c = search steps

pub number-requires : goal.number-requires
number-requires c = search steps

pub overflow_cast-result : goal.overflow_cast-result
overflow_cast-result c = search steps

pub returns : goal.returns
returns c = search steps
