-- What the proofs use.
pub mod Laws
