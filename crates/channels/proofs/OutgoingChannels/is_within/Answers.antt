-- `channels::OutgoingChannels::is_within` meets its contract: a law for each return.
-- Assumes nothing.
use borrow.Author.Rules.{rules}
use Rattle.channels.proofs.Limits.{freed_over, used_beyond, head_none, head_used, highest_over, used_over, head_above, freed_tested}
use Rattle.channels.proofs.OutgoingChannels.is_within.Goals as goal

pub returns-then-self-2 : goal.returns-then-self-2
returns-then-self-2 c = search (freed_over, rules)

pub returns-then-most-self : goal.returns-then-most-self
returns-then-most-self c = search (used_beyond, rules)

pub returns-then-self-eq0 : goal.returns-then-self-eq0
returns-then-self-eq0 c = search (head_none, rules)

pub returns-then-self : goal.returns-then-self
returns-then-self c = search (head_used, rules)

pub returns-then-most-gt0 : goal.returns-then-most-gt0
returns-then-most-gt0 c = search (highest_over, rules)

pub returns-then-self-gt0 : goal.returns-then-self-gt0
returns-then-self-gt0 c = search (used_over, rules)

pub returns-then-self-gt0-2 : goal.returns-then-self-gt0-2
returns-then-self-gt0-2 c = search (head_above, rules)

pub returns : goal.returns
returns c = search (freed_tested, rules)
