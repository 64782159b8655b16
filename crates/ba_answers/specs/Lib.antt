pub mod Printed
pub mod Limits
