-- What the proofs of several functions, and of the crates above, use.
pub mod Widths
pub mod Cases
pub mod Bounds
pub mod Table
pub mod Turns
pub mod Apart
pub mod Laws
pub mod Places
pub mod Plain
pub mod Steps
pub mod Compounds
pub mod Written
pub mod Examples
pub mod Missing
