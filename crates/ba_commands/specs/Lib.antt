pub mod Modes
pub mod Words
pub mod Commands
pub mod Parsing
