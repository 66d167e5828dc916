pub mod Rates
pub mod Conversions
pub mod Forces
pub mod Questions
