pub mod Literals
pub mod Satisfaction
pub mod Formulas
pub mod Hints
pub mod Members
