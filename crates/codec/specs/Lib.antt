pub mod ReadBack
pub mod Meaning
