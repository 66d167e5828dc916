pub mod Carry
pub mod Told
