-- What has to be believed for the headline.
pub mod audit
-- What an auditor reads: the promises and the calls of the surface are said with these.
pub mod Interaction
pub mod Following
pub mod Serial
pub mod Alike
pub mod Configurations
pub mod Reduced
-- What crates promise one another, what proofs use, and worked examples.
pub mod Paths
pub mod TraceLoads
pub mod StateKinds
pub mod MeaningExamples
pub mod BlockRecords
pub mod StateRanges
