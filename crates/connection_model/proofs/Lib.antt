-- Worked lists of calls; laws of the rules, of channel numbers and of every connection that calls can lead to; the account theorem.
pub mod Worked
pub mod Part2
pub mod Rules
pub mod Refusing
pub mod Channels
pub mod Invariant
pub mod Routing
pub mod Forward
pub mod Closing
pub mod Valid
pub mod ProbeFrames
pub mod Probes
pub mod Apart
pub mod Theorem
pub mod Led
pub mod Exact
