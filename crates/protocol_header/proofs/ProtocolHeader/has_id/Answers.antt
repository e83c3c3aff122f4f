-- `protocol_header::ProtocolHeader::has_id` meets its contract: it compares the id's number.
use Rattle.protocol_header.proofs.Steps.{has_id_lem}
use Rattle.protocol_header.proofs.ProtocolHeader.has_id.Goals as goal

pub returns : goal.returns
returns c = search has_id_lem
