pub mod Constants
pub mod Truths
pub mod Putting
pub mod Adding
pub mod Folding
