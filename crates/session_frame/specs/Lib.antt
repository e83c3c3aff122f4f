pub mod Session
pub mod Parts
