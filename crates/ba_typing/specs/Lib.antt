pub mod Names
pub mod Faults
pub mod Expressions
pub mod Declarations
pub mod Statements
pub mod Files
