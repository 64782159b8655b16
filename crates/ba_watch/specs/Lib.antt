pub mod Chains
pub mod Lifted
pub mod Threads
pub mod Trails
pub mod Propagation
pub mod Deletion
