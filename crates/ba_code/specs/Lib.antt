pub mod State
pub mod Operators
pub mod Meaning
pub mod Run
pub mod Facts
pub mod Types
