pub mod Concluding
pub mod OneVerdict
pub mod Counting
pub mod PlaceVerdicts
