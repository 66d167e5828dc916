pub mod Quotients
pub mod Dividers
pub mod Exact
