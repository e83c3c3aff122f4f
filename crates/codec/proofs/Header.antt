-- A protocol header that was written is read back, whatever stands after it, and one that was read is written as it stood: the laws of protocol_header.
-- Assumes nothing.
pub use Rattle.protocol_header.proofs.Laws.{read_bytes as header_read_back, read_written as header_written, write_read as header_bytes}
