pub mod Saturation
pub mod PieceLemmas
pub mod TextLines
