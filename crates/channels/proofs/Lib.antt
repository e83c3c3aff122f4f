-- What the proofs of several functions, and of the crates above, use.
pub mod Numbers
pub mod Counting
pub mod Lists
pub mod Kept
pub mod Laws
pub mod Words
pub mod Fields
pub mod Limits
pub mod Chains
pub mod Sounds
pub mod Opening
pub mod Steps
pub mod Marks
pub mod Links
pub mod Agreeing
pub mod Tying
pub mod Dropping
