pub mod Cuts
pub mod AllRuns
