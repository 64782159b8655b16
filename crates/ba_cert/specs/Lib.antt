pub mod Text
pub mod Reading
pub mod Readers
pub mod Certificates
pub mod Writing
pub mod Sinks
pub mod Writers
