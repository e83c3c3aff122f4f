pub mod Connection
pub mod Sound
pub mod Account
pub mod Callers
pub mod Part2
