-- What the proofs of the functions use.
pub mod States
pub mod Laws
