pub mod Keys
pub mod Facts
