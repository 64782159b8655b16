pub mod SignedPowers
pub mod SignedProducts
pub mod Rows
pub mod Bounds
pub mod Steps
pub mod Values
pub mod Defined
