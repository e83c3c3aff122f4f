-- What the proofs of several functions use, the runs of the library for C, and the theorem about them.
pub mod Crossings
pub mod Laying
pub mod Telling
pub mod Readings
pub mod Starting
pub mod Runs
pub mod Theorem
