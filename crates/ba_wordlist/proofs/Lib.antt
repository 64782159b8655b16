pub mod Values
pub mod Lengths
pub mod Choices
pub mod Joined
