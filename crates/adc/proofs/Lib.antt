pub mod Turns
pub mod Least
pub mod Channels
