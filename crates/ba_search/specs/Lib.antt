pub mod Rules
pub mod Searching
pub mod Answers
pub mod Values
pub mod Iterations
pub mod Engines
