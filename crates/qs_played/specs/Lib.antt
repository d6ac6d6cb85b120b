-- What has to be believed for the headline.
pub mod audit
-- What an auditor reads: the promises and the calls of the surface are said with these.
pub mod Isolation
pub mod Played
pub mod Outcomes
pub mod Schedule
pub mod SyncSums
-- What crates promise one another, what proofs use, and worked examples.
pub mod ExampleRuns
pub mod twin
