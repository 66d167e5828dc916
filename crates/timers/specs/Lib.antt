pub mod Timer4
pub mod Timer5
pub mod Timer
pub mod OsTick
pub mod Facts
