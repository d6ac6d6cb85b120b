-- What an auditor reads: the promises and the calls of the surface are said with these.
pub mod Estimates
pub mod Laws

-- What crates promise one another, what proofs use, and worked examples.
