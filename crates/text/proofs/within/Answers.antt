-- `text::within` meets its contract: what its test comes to on each side of the lower bound.
use Rattle.text.proofs.Steps.{range_under, range_from}
use Rattle.text.proofs.within.Goals as goal

pub returns-then-b-low : goal.returns-then-b-low
returns-then-b-low c = search range_under

pub returns : goal.returns
returns c = search range_from
