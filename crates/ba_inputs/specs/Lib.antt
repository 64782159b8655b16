pub mod Inputs
pub mod InputLines
pub mod Adding
pub mod Weights
pub mod Tables
