-- What an auditor reads: the promises and the calls of the surface are said with these.
pub mod Anchors
-- What crates promise one another, what proofs use, and worked examples.
pub mod Anchored
pub mod Blocks
pub mod Laws
