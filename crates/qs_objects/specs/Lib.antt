-- What has to be believed for the headline.
pub mod audit
-- What an auditor reads: the promises and the calls of the surface are said with these.
pub mod Objects
pub mod Operations
pub mod Journals
pub mod Parts
pub mod Sums
pub mod Rows
pub mod Traces
-- What crates promise one another, what proofs use, and worked examples.
pub mod Laws
pub mod Examples
pub mod ByteSets
