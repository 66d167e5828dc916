pub mod Parts
pub mod Facts
pub mod New
pub mod Held
pub mod Kept
