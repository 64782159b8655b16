pub mod Encodings
pub mod Derivations
pub mod Handing
