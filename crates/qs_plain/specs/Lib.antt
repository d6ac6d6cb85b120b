-- What an auditor reads: the promises and the calls of the surface are said with these.
pub mod Rules
-- What crates promise one another, what proofs use, and worked examples.
pub mod BegunBlocks
pub mod Blocks
pub mod Awaiting
pub mod StepEffects
pub mod client
pub mod handler
