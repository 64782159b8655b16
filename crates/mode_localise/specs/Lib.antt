pub mod Jobs
pub mod Answers
pub mod Leaving
