pub mod Inferences
pub mod Least
pub mod Tallies
pub mod ParsedForms
pub mod Walking
pub mod ArgumentSteps
