pub mod Agreed
pub mod Calls
pub mod Kept
pub mod Ends
pub mod Eight
