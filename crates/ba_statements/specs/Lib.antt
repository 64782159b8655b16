pub mod Adding
pub mod Controlling
pub mod Labelling
