pub mod Right
pub mod Served
