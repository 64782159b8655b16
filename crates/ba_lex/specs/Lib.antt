pub mod Spelling
pub mod Constants
pub mod Pieces
pub mod Lines
pub mod Storage
