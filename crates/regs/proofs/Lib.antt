pub mod ReadsKept
pub mod Registers
pub mod Kept
pub mod Pages
