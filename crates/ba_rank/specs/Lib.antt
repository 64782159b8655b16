pub mod Ranking
pub mod Counts
