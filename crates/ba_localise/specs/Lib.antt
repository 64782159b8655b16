pub mod Verdicts
pub mod Starting
pub mod Lending
pub mod Places
