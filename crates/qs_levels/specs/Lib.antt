-- What an auditor reads: the promise of `fronts_after` is said with these.
pub mod MoreFronts
-- What crates promise one another, what proofs use, and worked examples.
pub mod Founds
pub mod Shares
pub mod Leads
pub mod Merging
pub mod meaning
