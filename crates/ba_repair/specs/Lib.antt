pub mod Nodes
pub mod Rows
pub mod Edits
pub mod Changes
pub mod Good
