-- What the proofs of several functions, and of the crates above, use.
pub mod Laws
