pub mod Grammar
pub mod Files
pub mod Readings
pub mod Sets
pub mod Telling
pub mod Tails
pub mod Outcomes
pub mod Told
