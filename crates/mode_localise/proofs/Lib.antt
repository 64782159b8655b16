pub mod Sampling
pub mod Leaving
pub mod Rows
pub mod SampleAnswers
mod Agreement
mod Reports
mod Searching
