pub mod Files
pub mod Told
pub mod WholeReads
pub mod ReadEnds
pub mod Later
