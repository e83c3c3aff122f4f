-- What the proofs of several functions, and of the crates above, use.
pub mod Parts
pub mod Fixed
pub mod Laid
pub mod New
pub mod Standing
pub mod Codes
pub mod Laying
pub mod Reading
pub mod Steps
