-- `lacks_room`: a law for each return.
-- Assumes nothing.
use borrow.Author.Rules.{rules}
use Rattle.engine.proofs.Errors.{no_room, little_room, room_enough}
use Rattle.engine.proofs.room.lacks_room.Goals as goal

pub returns-then-output-lt-OUTPUT_ROOM : goal.returns-then-output-lt-OUTPUT_ROOM
returns-then-output-lt-OUTPUT_ROOM c = search (no_room, rules)

pub returns-then-output-waiting : goal.returns-then-output-waiting
returns-then-output-waiting c = search (little_room, rules)

pub returns : goal.returns
returns c = search (room_enough, rules)
