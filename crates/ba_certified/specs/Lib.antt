pub mod Certifying
pub mod Leaving
