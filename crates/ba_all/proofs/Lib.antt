pub mod Prefixes
pub mod Cutting
pub mod Judging
pub mod Counting
