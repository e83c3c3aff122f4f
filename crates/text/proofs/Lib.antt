-- What the proofs of several functions use.
pub mod Rows
pub mod Steps
pub mod Laws
pub mod Examples
