pub mod Equations
pub mod Rows
pub mod Ranges
mod Agreeing
pub mod Typed
pub mod Paths
