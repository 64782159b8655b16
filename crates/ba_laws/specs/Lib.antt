pub mod Names
pub mod Visits
