pub mod LineLaws
pub mod CourseLaws
pub mod CertificateLaws
pub mod TruthLaws
pub mod CodeLaws
pub mod ReaderLaws
pub mod WrittenLaws
