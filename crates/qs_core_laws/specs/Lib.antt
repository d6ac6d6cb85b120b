-- What has to be believed for the headline.
pub mod audit
-- What an auditor reads: the promises and the calls of the surface are said with these.
pub mod CoreSchedule
-- What crates promise one another, what proofs use, and worked examples.
pub mod CoreReached
pub mod CoreSyncSums
pub mod protocol
pub mod orders
pub mod progress
