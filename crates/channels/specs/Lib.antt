pub mod Numbers
pub mod Ties
pub mod Places
pub mod Channels
pub mod Lists
pub mod Links
