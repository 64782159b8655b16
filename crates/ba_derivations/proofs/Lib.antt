pub mod GroupLaws
pub mod StepLaws
pub mod VerdictLaws
