mod Marking
mod Reading
mod Alike
mod Agreement
pub mod Rows
mod Telling
mod Searching
