-- What an auditor reads: the promises and the calls of the surface are said with these.
pub mod Flow
pub mod Table
-- What crates promise one another, what proofs use, and worked examples.
pub mod Bytes
pub mod Dataflow
