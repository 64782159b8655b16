pub mod Classes
pub mod Decimal
pub mod Pieces
pub mod Lines
pub mod Numbers
