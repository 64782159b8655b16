pub mod Jobs
pub mod Report
pub mod Answers
pub mod Listing
pub mod Searches
