pub mod Words
pub mod Formulas
pub mod PlaceFormulas
pub mod AllFormulas
