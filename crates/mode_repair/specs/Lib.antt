pub mod Jobs
pub mod Cases
pub mod Report
pub mod Answers
pub mod Searches
pub mod Marks
