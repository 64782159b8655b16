pub mod Lines
pub mod Findings
pub mod Answers
pub mod Readings
pub mod Readers
