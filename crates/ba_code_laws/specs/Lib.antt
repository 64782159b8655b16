pub mod Tracing
pub mod Visits
