pub mod Clauses
pub mod Compaction
pub mod Links
pub mod Words
