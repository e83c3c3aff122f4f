-- Laws that join reading and writing. These are the results; the other laws serve them.
-- Written, then read: Header.header_read_back and header_written, Open.open_read_back, Close.close_read_back, Empty.empty_read_back.
-- Read, then written: Header.header_bytes. Read, written, then read and written: Session.session_read_back.
-- Within the limit, and accepted by a reader with that limit: Passed.open_passes, close_passes and empty_passes, Session.session_passes.
-- At most twice as long as it was lent: Lengths.session_short.
pub mod Header
pub mod Trimmed
pub mod Composite
pub mod Values
pub mod Frames
pub mod Open
pub mod Close
pub mod Empty
pub mod Passed
pub mod Splits
pub mod Shortest
pub mod Errors
pub mod Rewritten
pub mod Session
pub mod Lengths
