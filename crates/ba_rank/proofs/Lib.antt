mod Counting
pub mod Ordering
mod Ranks
