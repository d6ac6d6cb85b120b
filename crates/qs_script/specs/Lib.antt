-- What has to be believed for the headline.
pub mod audit
-- What an auditor reads: the promises and the calls of the surface are said with these.
pub mod Lines
pub mod Reads
-- What crates promise one another, what proofs use, and worked examples.
pub mod Types
pub mod Results
pub mod tokens
pub mod tree
pub mod grammar
