pub mod Groups
pub mod Readings
pub mod Encodings
pub mod Selectors
pub mod Parts
pub mod Built
pub mod Softs
