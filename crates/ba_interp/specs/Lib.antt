pub mod Paths
pub mod Doing
pub mod Frames
pub mod Settings
pub mod Loops
pub mod Parts
pub mod Prefixes
