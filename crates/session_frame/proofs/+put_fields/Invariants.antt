-- `put_fields`: a field by its row, and then those after it. The measure is how many are left.
-- Assumes nothing.
use Rattle.session_frame.proofs.+put_fields.Given as goal

abbrev pub decreases-put_fields : goal.decreases-put_fields
decreases-put_fields l = l.left
