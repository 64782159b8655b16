pub mod Luby
pub mod Rules
