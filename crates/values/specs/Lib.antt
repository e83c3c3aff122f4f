pub mod Value
pub mod Widths
pub mod Plain
pub mod Answers
pub mod Null
