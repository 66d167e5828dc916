pub mod Banks
pub mod Quiet
pub mod Right
pub mod Vectors
