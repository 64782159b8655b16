pub mod Steady
pub mod Replays
pub mod Runs
