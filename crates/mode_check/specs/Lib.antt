pub mod Jobs
pub mod Certificates
pub mod Checks
