-- What has to be believed for the headline.
pub mod audit
-- What an auditor reads: the promises and the calls of the surface are said with these.
pub mod PlainIsolation
pub mod PlainSchedule
pub mod PlainSyncSums
-- What crates promise one another, what proofs use, and worked examples.
pub mod IsolationExamples
pub mod PlayExamples
pub mod orders
pub mod progress
