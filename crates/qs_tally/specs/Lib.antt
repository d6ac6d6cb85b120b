-- What an auditor reads: the promise of the call of the surface is said with these.
pub mod Tallies
-- What proofs use.
pub mod Counting
