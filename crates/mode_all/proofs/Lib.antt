pub mod Leaving
pub mod Rows
mod Adding
mod Agreement
mod Reporting
mod Searching
