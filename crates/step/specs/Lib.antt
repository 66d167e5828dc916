pub mod Stages
pub mod Apply
pub mod Reset
pub mod Step
