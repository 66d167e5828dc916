pub mod Edge
pub mod Ports
pub mod Marks
