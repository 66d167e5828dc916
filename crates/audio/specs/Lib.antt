pub mod Audio
pub mod Facts
pub mod Told
