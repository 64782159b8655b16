pub mod Host
pub mod Memory
pub mod Read
pub mod World
