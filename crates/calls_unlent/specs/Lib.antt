pub mod Looks
pub mod Deeds
