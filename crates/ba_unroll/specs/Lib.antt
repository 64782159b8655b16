pub mod Unrolling
pub mod Outcomes
