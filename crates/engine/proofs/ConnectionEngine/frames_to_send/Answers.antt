-- `frames_to_send`: 9, 8 for its error and for its tables, 20, and the frames that wait.
-- Assumes nothing.
use borrow.Author.Rules.{rules}
use Rattle.engine.proofs.Closing.{ordered_9, ordered_8, ordered_uncovered, ordered_20, ordered_frames}
use Rattle.engine.proofs.ConnectionEngine.frames_to_send.Goals as goal

pub returns-then-lacks_room : goal.returns-then-lacks_room
returns-then-lacks_room c = search (ordered_9, rules)

pub returns-then-not-fine : goal.returns-then-not-fine
returns-then-not-fine c = search (ordered_8, rules)

pub returns-then-not-is_covered : goal.returns-then-not-is_covered
returns-then-not-is_covered c = search (ordered_uncovered, rules)

pub returns-then-is_ending : goal.returns-then-is_ending
returns-then-is_ending c = search (ordered_20, rules)

pub returns : goal.returns
returns c = search (ordered_frames, rules)
