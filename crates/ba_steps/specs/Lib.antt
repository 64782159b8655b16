pub mod Steps
pub mod GoodRuns
pub mod Sinks
pub mod Lists
pub mod Numbers
