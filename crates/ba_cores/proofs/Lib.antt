pub mod DerivesLaws
pub mod LeastLaws
pub mod CoreLaws
pub mod HeavyLaws
