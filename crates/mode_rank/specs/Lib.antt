pub mod Jobs
pub mod Inputs
pub mod Report
pub mod Answers
pub mod Searches
