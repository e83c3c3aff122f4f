-- `trim_values`: a value, and what is kept of those after it. The measure is how many there are.
-- Assumes nothing.
use Rattle.session_frame.proofs.error.+trim_values.Given as goal

abbrev pub decreases-trim_values : goal.decreases-trim_values
decreases-trim_values l = l.count
