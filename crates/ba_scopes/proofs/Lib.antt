pub mod Storing
pub mod Hiding
pub mod Listing
