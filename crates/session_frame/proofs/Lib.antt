-- What the proofs of several functions, and of the crates above, use.
pub mod Trim
pub mod Steps
pub mod Split
pub mod Below
pub mod Errors
pub mod Types
pub mod Walk
pub mod Frames
pub mod Reading
pub mod Copied
pub mod Writing
