pub mod Answers
pub mod Promises
pub mod Sending
pub mod Reading
