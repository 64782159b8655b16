pub mod Equivalent
pub mod Spelling
