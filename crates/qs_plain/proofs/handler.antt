pub mod HandlersPreserved
pub mod HandlersSteps
pub mod Logged
