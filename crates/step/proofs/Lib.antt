pub mod Serving
pub mod Applied
pub mod Refusals
pub mod Turns
pub mod Loop
pub mod WholeKept
pub mod Outcomes
