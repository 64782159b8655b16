pub mod Programs
pub mod AtOnce
pub mod Inputs
pub mod Cases
pub mod AllCases
pub mod Reading
pub mod Searching
