pub mod Into
pub mod Bits
pub mod Bounded
