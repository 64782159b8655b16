pub mod Orders
pub mod Unique
pub mod Numbering
mod Weighed
mod Sorting
mod Steps
mod Suspects
