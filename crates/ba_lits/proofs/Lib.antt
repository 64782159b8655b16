pub mod Satisfied
pub mod Members
pub mod HintLaws
pub mod ClauseLaws
pub mod StampLaws
