pub mod Encodings
pub mod Clauses
pub mod Uses
pub mod Sides
