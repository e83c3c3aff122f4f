-- `read_header`: one law for each answer.
-- Assumes nothing.
use borrow.Author.Rules.{rules}
use Rattle.frame_decoder.proofs.Steps.{header_missing, header_small, header_over, header_short, header_doff, header_type, header_channel, header_whole, four_are, channel_fits}
use Rattle.frame_decoder.proofs.read_header.Goals as goal

ruleset steps = (header_missing, header_small, header_over, header_short, header_doff, header_type, header_channel, header_whole, four_are, channel_fits, rules)

pub returns-then-s-lt4 : goal.returns-then-s-lt4
returns-then-s-lt4 c = search steps

pub slice_bounds-number-end : goal.slice_bounds-number-end
slice_bounds-number-end c = search steps

pub number-size-requires : goal.number-size-requires
number-size-requires c = search steps

pub returns-then-size-lt-HEADER_SIZE : goal.returns-then-size-lt-HEADER_SIZE
returns-then-size-lt-HEADER_SIZE c = search steps

pub returns-then-limit-size : goal.returns-then-limit-size
returns-then-limit-size c = search steps

pub returns-then-s-size : goal.returns-then-s-size
returns-then-s-size c = search steps

pub bounds-s-4 : goal.bounds-s-4
bounds-s-4 c = search steps

pub returns-then-doff-ne2 : goal.returns-then-doff-ne2
returns-then-doff-ne2 c = search steps

pub bounds-s-5 : goal.bounds-s-5
bounds-s-5 c = search steps

pub returns-then-ftype-ne-FRAME_TYPE_AMQP : goal.returns-then-ftype-ne-FRAME_TYPE_AMQP
returns-then-ftype-ne-FRAME_TYPE_AMQP c = search steps

pub slice_bounds-number-count : goal.slice_bounds-number-count
slice_bounds-number-count c = search steps

pub slice_bounds-number-start : goal.slice_bounds-number-start
slice_bounds-number-start c = search steps

pub slice_bounds-number-end-2 : goal.slice_bounds-number-end-2
slice_bounds-number-end-2 c = search steps

pub number-channel-requires : goal.number-channel-requires
number-channel-requires c = search steps

pub overflow_cast-channel : goal.overflow_cast-channel
overflow_cast-channel c = search steps

pub returns-then-highest-channel : goal.returns-then-highest-channel
returns-then-highest-channel c = search steps

pub returns : goal.returns
returns c = search steps
