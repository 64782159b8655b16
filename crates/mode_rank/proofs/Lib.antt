pub mod Reading
pub mod Listing
pub mod Alike
pub mod OneRanking
