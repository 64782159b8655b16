pub mod Derivations
pub mod Findings
pub mod Rounds
