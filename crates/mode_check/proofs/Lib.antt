mod Feeding
mod Concluding
pub mod Checking
