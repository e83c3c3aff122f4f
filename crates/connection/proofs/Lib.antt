-- Laws from the rules of the definition to the calls of the code.
pub mod Calls
pub mod Writing
pub mod Reading
pub mod Tables
pub mod Making
pub mod Runs
pub mod Theorem
