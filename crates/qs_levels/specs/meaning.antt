-- What an auditor reads: the promises and the calls of the surface are said with these.
pub mod Fronts
pub mod Joining
-- What crates promise one another, what proofs use, and worked examples.
pub mod Onward
pub mod Levels
pub mod Weights
