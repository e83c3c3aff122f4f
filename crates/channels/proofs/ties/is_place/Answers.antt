-- `channels::ties::is_place` meets its contract: a law for each return.
-- Assumes nothing.
use borrow.Author.Rules.{rules}
use Rattle.channels.proofs.Tying.{place_above, place_within}
use Rattle.channels.proofs.ties.is_place.Goals as goal

pub returns-then-highest-channel : goal.returns-then-highest-channel
returns-then-highest-channel c = search (place_above, rules)

pub returns : goal.returns
returns c = search (place_within, rules)
