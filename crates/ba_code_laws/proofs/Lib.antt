pub mod Equations
pub mod Erasing
