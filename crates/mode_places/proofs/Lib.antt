pub mod Rows
mod Agreement
mod OneVerdict
mod Reports
mod Searching
