-- `trim_fields`: a field by its row, and what is kept of those after it. The measure is how many rows are left.
-- Assumes nothing.
use lib.ListN.{length}
use Rattle.session_frame.specs.Parts.{fields_from}
use Rattle.session_frame.proofs.+trim_fields.Given as goal

abbrev pub decreases-trim_fields : goal.decreases-trim_fields
decreases-trim_fields l = length (fields_from l.code l.i)
