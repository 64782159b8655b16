pub mod SignatureSteps
pub mod ParameterSteps
pub mod FunctionSteps
pub mod FileSteps
