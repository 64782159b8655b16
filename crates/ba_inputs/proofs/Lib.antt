pub mod InputSteps
pub mod PieceCounts
pub mod Tabling
pub mod NoText
pub mod LineLengths
pub mod LineSteps
