pub mod Map
pub mod Pins
pub mod Matrix
pub mod Led
pub mod Facts
