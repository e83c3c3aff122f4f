-- `protocol_header::write` meets its contract: a law for the refusal and a law for the eight bytes.
use native.Mathlib.Omega.{arith}
use Rattle.protocol_header.proofs.Steps.{write_refused, write_bytes}
use Rattle.protocol_header.proofs.write.Goals as goal

pub returns-then-out-lt-OUTPUT_ROOM : goal.returns-then-out-lt-OUTPUT_ROOM
returns-then-out-lt-OUTPUT_ROOM c = write_refused _ _ (omega arith)

pub returns : goal.returns
returns c = search write_bytes
