-- What an auditor reads: the promises and the calls of the surface are said with these.
pub mod Conditions
pub mod Claims
pub mod Limits
pub mod Signs
pub mod Grammar
pub mod Reading
pub mod Reads
-- What crates promise one another, what proofs use, and worked examples.
pub mod SignResults
pub mod Results
