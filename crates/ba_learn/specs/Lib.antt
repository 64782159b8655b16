pub mod Live
pub mod Levels
pub mod Resolving
pub mod Backjumps
