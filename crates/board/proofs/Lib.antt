pub mod Known
pub mod Polls
pub mod Kept
