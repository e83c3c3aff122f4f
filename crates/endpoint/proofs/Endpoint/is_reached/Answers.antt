-- `endpoint::Endpoint::is_reached` meets its contract: a law for each of the eight returns.
-- Assumes nothing.
use borrow.Author.Rules.{rules}
use borrow.Author.Tests.{not-true, not-false}
use Rattle.endpoint.proofs.Limits.{reached_after, reached_reading, reached_first, reached_before, reached_over, reached_other, reached_low, reached_high}
use Rattle.endpoint.proofs.Endpoint.is_reached.Goals as goal

ruleset steps = (reached_after, reached_reading, reached_first, reached_before, reached_over, reached_other, reached_low, reached_high, not-true, not-false, rules)

pub returns-then-is_after_open : goal.returns-then-is_after_open
returns-then-is_after_open c = search steps

pub returns-then-self-ne-MIN_MAX_FRAME_SIZE : goal.returns-then-self-ne-MIN_MAX_FRAME_SIZE
returns-then-self-ne-MIN_MAX_FRAME_SIZE c = search steps

pub returns-then-is_before_open : goal.returns-then-is_before_open
returns-then-is_before_open c = search steps

pub returns-then-channel_max-agreed : goal.returns-then-channel_max-agreed
returns-then-channel_max-agreed c = search steps

pub returns-then-self-max_frame_size : goal.returns-then-self-max_frame_size
returns-then-self-max_frame_size c = search steps

pub returns-then-self-lt-MIN_MAX_FRAME_SIZE : goal.returns-then-self-lt-MIN_MAX_FRAME_SIZE
returns-then-self-lt-MIN_MAX_FRAME_SIZE c = search steps

pub returns-else-self-ne-MIN_MAX_FRAME_SIZE : goal.returns-else-self-ne-MIN_MAX_FRAME_SIZE
returns-else-self-ne-MIN_MAX_FRAME_SIZE c = search steps

pub returns-else-self-lt-MIN_MAX_FRAME_SIZE : goal.returns-else-self-lt-MIN_MAX_FRAME_SIZE
returns-else-self-lt-MIN_MAX_FRAME_SIZE c = search steps
