pub mod Text
pub mod Sample
pub mod Reading
