pub mod Problems
pub mod Leading
pub mod Enumerating
pub mod Turning
