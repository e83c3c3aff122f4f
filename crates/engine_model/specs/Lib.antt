pub mod Texts
pub mod Engine
pub mod Phases
pub mod Callers
