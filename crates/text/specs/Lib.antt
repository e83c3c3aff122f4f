pub mod Utf8
pub mod Character
pub mod Ascii
