pub mod Again
pub mod Recited
