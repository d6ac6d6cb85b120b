-- What an auditor reads: the promises and the calls of the surface are said with these.
pub mod Forms
pub mod Told
pub mod Marks
pub mod PlainSteps
pub mod CoreSteps
pub mod Queues
pub mod PlainQueues
pub mod CoreQueues
-- What crates promise one another, what proofs use, and worked examples.
pub mod StepReplays
pub mod Telling
pub mod Orders
pub mod StepNames
