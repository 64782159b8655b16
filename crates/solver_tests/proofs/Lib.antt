pub mod Assumptions
pub mod SomeLaws
