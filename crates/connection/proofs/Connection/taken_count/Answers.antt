-- `taken_count`: the count of a sound connection.
-- Assumes nothing.
use Rattle.connection.proofs.Making.{counts_taken}
use Rattle.connection.proofs.Connection.taken_count.Goals as goal

pub returns : goal.returns
returns c = λ t id. counts_taken _ _ (c.taken_count.ensures t id)
