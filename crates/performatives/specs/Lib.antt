pub mod Fields
pub mod Performative
pub mod Answers
pub mod Inner
