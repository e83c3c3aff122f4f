-- What the proofs of several functions, and of the crates above, use.
pub mod Laws
pub mod Refusals
pub mod Steps
pub mod Tables
