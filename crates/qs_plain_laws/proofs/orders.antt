pub mod AloneSteps
pub mod BlockAlone
pub mod BlockReached
