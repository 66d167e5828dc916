pub mod Reads
pub mod Registers
pub mod Writes
pub mod Told
