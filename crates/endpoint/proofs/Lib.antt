-- What the proofs of several functions, and of the crates above, use.
pub mod Basics
pub mod Opening
pub mod Receiving
pub mod Limits
pub mod Sending
