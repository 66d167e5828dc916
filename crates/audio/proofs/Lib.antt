pub mod Kept
pub mod Backlog
pub mod Whole
