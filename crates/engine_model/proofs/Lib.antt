-- Worked events, and laws of the engine.
pub mod Worked
pub mod Late
pub mod Laws
pub mod Frames
pub mod Calls
pub mod Phases
pub mod Ending
pub mod Alike
