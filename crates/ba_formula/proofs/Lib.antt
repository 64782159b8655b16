pub mod Spreading
pub mod Members
pub mod Relaxing
pub mod Guarding
pub mod Composing
pub mod PlaceRelaxing
pub mod Enough
pub mod PlaceComposing
