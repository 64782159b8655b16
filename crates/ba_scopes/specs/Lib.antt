pub mod Storage
pub mod Marks
