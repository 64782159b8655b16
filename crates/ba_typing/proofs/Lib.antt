pub mod TreeForms
pub mod StmtForms
pub mod ParsedStatements
pub mod SignatureFacts
pub mod Walks
pub mod FaultOrder
