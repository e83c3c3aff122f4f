-- `text::is_ascii` meets its contract, as std's test has it.
-- Assumes nothing.
use Rattle.text.proofs.Steps.{ascii_all}
use Rattle.text.proofs.is_ascii.Goals as goal

pub returns : goal.returns
returns c = search ascii_all
