pub mod Bits
pub mod Leaves
pub mod Needs
