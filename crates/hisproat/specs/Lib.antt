pub mod Answers
pub mod Crossing
pub mod Promises
pub mod Lists
