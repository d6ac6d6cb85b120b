-- What an auditor reads: the promises and the calls of the surface are said with these.
pub mod Standings
pub mod Lists
-- What crates promise one another, what proofs use, and worked examples.
pub mod Packed
pub mod Rows
pub mod Variables
pub mod going
