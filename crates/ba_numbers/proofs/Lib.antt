pub mod Conversions
pub mod Products
pub mod Parts
