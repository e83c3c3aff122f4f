pub mod Verdict
pub mod Refusal
pub mod Octets
pub mod Output
