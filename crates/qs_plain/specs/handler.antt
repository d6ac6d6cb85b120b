-- What an auditor reads: the promises and the calls of the surface are said with these.
pub mod Served
pub mod Effects
-- What crates promise one another, what proofs use, and worked examples.
pub mod Handlers
pub mod Beginning
