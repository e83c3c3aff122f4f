-- `protocol_header::ProtocolHeader::bytes` meets its contract: the bytes are those of the definition, one by one.
use Rattle.protocol_header.proofs.Steps.{bytes_are}
use Rattle.protocol_header.proofs.ProtocolHeader.bytes.Goals as goal

pub returns : goal.returns
returns c = search bytes_are
