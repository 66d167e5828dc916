pub mod Banks
pub mod Latch
pub mod Sources
pub mod Choice
pub mod Told
pub mod Right
